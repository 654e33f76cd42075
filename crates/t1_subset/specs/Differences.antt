-- What the code's values mean when it compares two fonts.
use Rattle.std.specs.{Prelude.{ℕ, Bool, not, ◌&&◌, cond, List, Option, Some, None}, Global.{Vec}, declared.cmp.Ordering.{Ordering}, Ordering.{is_lt}}
use Rattle.t1_join.specs.{Meaning.{Meaning}, TableMeaning.{TableMeaning}}
use Rattle.t1_algebra.specs.{States.{is_stub}, Shared.{ShellPart, Head, EncodingPart, ClearTail, Private, SubrsTable, SubrsWords, Middle, GlyphsWords, Tail}}
use Rattle.t1_subset.specs.declared.conflict.ShellPart.{ShellPart as Part}
use Rattle.std.specs.FinMap as maps
use Rattle.t1_subset.specs.declared.conflict.ShellPart.TheVariants as part

-- the part of the shell that a variant in code stands for
abbrev pub shell_part : Part → ShellPart
shell_part part.Head = Head
shell_part part.Encoding = EncodingPart
shell_part part.ClearTail = ClearTail
shell_part part.Private = Private
shell_part part.SubrsTable = SubrsTable
shell_part part.SubrsWords = SubrsWords
shell_part part.Middle = Middle
shell_part part.GlyphsWords = GlyphsWords
shell_part part.Tail = Tail

-- the bytes of a vector
abbrev pub vector_bytes : Vec ℕ → List ℕ
vector_bytes v = v.items

-- the table with this state at the key, or unchanged if there is none
abbrev pub with_state : TableMeaning → Meaning → Option Meaning → TableMeaning
with_state t k None = t
with_state t k (Some v) = maps.insert t k v

-- an entry, or nothing if it is a stub that is not executed
abbrev pub entry_state : Option (List ℕ) → Bool → Option (List ℕ)
entry_state None is_called = None
entry_state (Some c) is_called = cond (is_stub c && not is_called) None (Some c)

-- the smaller of two keys, or the one that is there
abbrev pub smaller : {K : Type 0} → (K → K → Ordering) → Option K → Option K → Option K
smaller R None y = y
smaller R (Some m) None = Some m
smaller R (Some m) (Some n) = cond (is_lt (R n m)) (Some n) (Some m)
