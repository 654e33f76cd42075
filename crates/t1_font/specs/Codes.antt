-- The codes of byte lists, and of finite maps to byte lists.
use Rattle.std.specs.{Prelude.{List, ℕ}, Coded.{Coded, coded_list, coded_ℕ}, FinMap.{code}}
use Rattle.t1_font.specs.FontValue.{SparseArray, CharStrings}

abbrev pub bytes_code : Coded (List ℕ)
bytes_code = coded_list coded_ℕ

abbrev pub numbered_code : Coded SparseArray
numbered_code = code coded_ℕ bytes_code

abbrev pub named_code : Coded CharStrings
named_code = code bytes_code bytes_code
