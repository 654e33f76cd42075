-- The words, phrases and charstrings that a font can have, and texts without a marker.
use Rattle.std.specs.{Prelude.{◌≡◌, ℕ, ◌+◌, ◌≤◌, Bool, true, List, [], ◌∷◌, length, Some}, List.{AllByRecursion}}
use Rattle.t1_bytes.specs.Laws.{AreBytes}
use Rattle.t1_grammar.specs.Grammar.{Grammar, NoneIn}
use Rattle.t1_text.specs.{Words.{is_regular, phrase_of, passes}, Entry.{charstring_limit}}

-- ---- words

-- one word of 1 to `most` bytes
pub record IsWord (most : ℕ) (w : List ℕ) : Type 0 where
  pub regular : AllByRecursion (λ b. is_regular b ≡ true) w
  pub some : 1 ≤ length w
  pub few : length w ≤ most
  pub bytes : AreBytes w

-- a whole phrase, of whose words none may be `dup` where that is barred
pub record IsPhrase (may_be_dup : Bool) (p : List ℕ) : Type 0 where
  pub whole : (phrase_of (passes may_be_dup)).read p ≡ Some (p, [])
  pub bytes : AreBytes p

-- a charstring that has room for its lead bytes
pub record IsCharstring (iv : ℕ) (c : List ℕ) : Type 0 where
  pub short : iv + length c ≤ charstring_limit
  pub bytes : AreBytes c

-- ---- the shell

-- the marker g stands at no place of the text, where a slash stands behind it
abbrev pub NoMarker : {A : Type 0} → Grammar A → List ℕ → Type 0
NoMarker g text = NoneIn g text (47 ∷ [])
