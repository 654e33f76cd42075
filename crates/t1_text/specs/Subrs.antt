-- The table of subroutines.
use Rattle.std.specs.Prelude.{ℕ, nat_lt, false, List, codes}
use Rattle.t1_grammar.specs.{Grammar.{Grammar, ◌>>◌, that}, Tables.{Table, table_at}}
use Rattle.t1_bytes.specs.White.{gap}
use Rattle.t1_text.specs.{declared.dialect.Spacing.{Spacing}, Dialect.{white_in}, Words.{keyword, decimal, phrase_of, passes}, Entry.{Entry, entry}}

-- a subroutine by its index
abbrev pub Subr : Type 0
Subr = Entry ℕ

-- an index below the declared count, and what stands before it
unfoldable pub subr_key : Spacing → ℕ → Grammar ℕ
subr_key d declared = do
  white_in d
  keyword (codes "dup")
  gap
  that (λ i. nat_lt i declared) decimal

-- an entry of a table with this declared count and lenIV
abbrev pub subr : Spacing → ℕ → ℕ → Grammar Subr
subr d declared iv = entry (subr_key d declared) iv

-- the phrase that closes the table
unfoldable pub subrs_end : Spacing → Grammar (List ℕ)
subrs_end d = do
  white_in d
  phrase_of (passes false)

-- the entries, the closing phrase and what stands after it; or what is left where they break off
abbrev pub subrs_at : Spacing → ℕ → ℕ → List ℕ → Table Subr (List ℕ)
subrs_at d declared iv bytes = table_at (subr d declared iv) (subrs_end d) bytes
