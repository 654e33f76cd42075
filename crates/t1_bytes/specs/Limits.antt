-- The limit of files.
use Rattle.std.specs.Prelude.{ℕ}

-- the bytes of the largest file, and so of each part of one: 2^28
abbrev pub file_limit : ℕ
file_limit = 268435456
