-- The names of glyphs.
use Rattle.std.specs.{Prelude.{ℕ, List, codes}, declared.cmp.Ordering.{Ordering}, Ordering.{nat_cmp}, Cmp.Lexicographic.{slice_cmp}}

-- names are in the order of their bytes
abbrev pub name_cmp : List ℕ → List ℕ → Ordering
name_cmp = slice_cmp nat_cmp

-- the name that each font has
abbrev pub notdef : List ℕ
notdef = codes ".notdef"
