-- Places in a text, told from its end.
use Rattle.std.specs.Prelude.{◌≡◌, ℕ, ◌+◌, ◌-◌, List, ◌++◌, length, take, drop}
use Rattle.t1_text.specs.declared.places.Place.{Place}

-- the last n bytes
abbrev pub ending : ℕ → List ℕ → List ℕ
ending n text = drop (length text - n) text

-- the bytes at a place
abbrev pub bytes_at_place : List ℕ → Place → List ℕ
bytes_at_place text p = take p.len (ending (p.len + p.behind) text)

-- a part of a text, and how many bytes stand behind it
pub record StandsIn (text part : List ℕ) (behind : ℕ) : Type 0 where
  pub before : List ℕ
  pub after : List ℕ
  pub whole : text ≡ before ++ (part ++ after)
  pub size : length after ≡ behind
