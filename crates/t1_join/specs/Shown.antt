-- Names as they are printed.
use Rattle.std.specs.{Prelude.{ℕ, ◌+◌, ◌/◌, ◌%◌, List, [], ◌∷◌, Bool, nat_lt, nat_le, ◌&&◌, not, if◌then◌else◌, ◌==◌}, List.{flat_map}}

-- a hexadecimal digit, in lower case
abbrev pub hex_digit : ℕ → ℕ
hex_digit n = if nat_lt n 10 then 48 + n else 87 + n

-- a byte from 33 to 126 other than the backslash is printed as it is
abbrev pub is_plain : ℕ → Bool
is_plain b = nat_le 33 b && (nat_le b 126 && not (b == 92))

-- a byte of a name as it is printed: itself, or `\x` and two digits
abbrev pub escaped : ℕ → List ℕ
escaped b = if is_plain b then b ∷ [] else 92 ∷ 120 ∷ hex_digit (b / 16) ∷ hex_digit (b % 16) ∷ []

-- a name as it is printed
abbrev pub shown : List ℕ → List ℕ
shown name = flat_map escaped name
