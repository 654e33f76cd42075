-- What fonts have to share to join, and the first part in which they differ.
use Rattle.std.specs.{Prelude.{ℕ, Bool, true, false, cond, not, ◌&&◌, List, [], ◌∷◌, filter, Option, Some, None, is_some}, Coded.{Coded, coded×, coded_option}, Ordering.{nat_cmp, eq_by_cmp}}
use Rattle.std.specs.List.{find}
use Rattle.t1_font.specs.{FontValue.{FontValue, Shell, SubrsShell, declared_count}, FontModel.{of_subrs, shell_code, word_of}, Codes.{bytes_code}}
use Rattle.t1_algebra.specs.Interpreter.{same_bytes}
use Rattle.std.specs.FinMap as maps

-- a shell, the Encoding if it is a word, and the indices of the Subrs that are present, upwards
abbrev pub Shared : Type 0
Shared = Shell × (Option (List ℕ) × List ℕ)

-- how the shared value is coded
abbrev pub shared_code : Coded Shared
shared_code = coded× shell_code (coded× (coded_option bytes_code) bytes_code)

-- what a font shares with each font that it joins
abbrev pub shared_of : FontValue → Shared
shared_of f = (f.shell, (word_of f.encoding, maps.keys f.subrs))

-- the parts of a shell, in the order in which they are compared
pub data ShellPart : Type 0 where
  Head : ShellPart
  EncodingPart : ShellPart
  ClearTail : ShellPart
  Private : ShellPart
  SubrsTable : ShellPart
  SubrsWords : ShellPart
  Middle : ShellPart
  GlyphsWords : ShellPart
  Tail : ShellPart

-- all parts of a shell, in their order
abbrev pub all_parts : List ShellPart
all_parts = Head ∷ EncodingPart ∷ ClearTail ∷ Private ∷ SubrsTable ∷ SubrsWords ∷ Middle ∷ GlyphsWords ∷ Tail ∷ []

-- ---- tests

-- two numbers are the same
abbrev pub same_number : ℕ → ℕ → Bool
same_number = eq_by_cmp nat_cmp

-- two truth values are the same
abbrev pub same_bool : Bool → Bool → Bool
same_bool a b = cond a b (not b)

-- both are the same word, or neither is a word
abbrev pub same_word : Option (List ℕ) → Option (List ℕ) → Bool
same_word None None = true
same_word None (Some w) = false
same_word (Some v) None = false
same_word (Some v) (Some w) = same_bytes v w

-- the words of two tables of Subrs are the same; without a table they are empty
abbrev pub same_words : Option SubrsShell → Option SubrsShell → Bool
same_words s t = same_bytes (of_subrs (λ w. w.rd) s) (of_subrs (λ w. w.rd) t)
    && (same_bytes (of_subrs (λ w. w.put) s) (of_subrs (λ w. w.put) t) && same_bytes (of_subrs (λ w. w.closing) s) (of_subrs (λ w. w.closing) t))

module _ (s t : Shared) where
  -- a part is the same in both; that of the Encoding is its word or that it is a table, and that of the table of Subrs includes which indices are present
  abbrev pub same_part : ShellPart → Bool
  same_part Head = same_bytes s.0.head t.0.head
  same_part EncodingPart = same_word s.1.0 t.1.0
  same_part ClearTail = same_bytes s.0.clear_tail t.0.clear_tail
  same_part Private = same_bytes s.0.private t.0.private && same_number s.0.len_iv t.0.len_iv
  same_part SubrsTable =
      same_bool (is_some s.0.subrs) (is_some t.0.subrs) && (same_number (declared_count s.0.subrs) (declared_count t.0.subrs) && same_bytes s.1.1 t.1.1)
  same_part SubrsWords = same_words s.0.subrs t.0.subrs
  same_part Middle = same_bytes s.0.middle t.0.middle
  same_part GlyphsWords = same_bytes s.0.glyphs_rd t.0.glyphs_rd && same_bytes s.0.glyphs_def t.0.glyphs_def
  same_part Tail = same_bytes s.0.tail t.0.tail

  -- the first part that differs
  abbrev pub differing_part : Option ShellPart
  differing_part = find (λ part. not (same_part part)) all_parts

  -- all parts that differ, in their order
  abbrev pub differing_parts : List ShellPart
  differing_parts = filter (λ part. not (same_part part)) all_parts
