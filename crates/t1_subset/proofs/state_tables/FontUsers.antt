-- The users of a font's Subrs, as the code notes them.
use Rattle.std.proofs.{lemmas.Bool.Decides.{nat_tests}, Common.{◌≡◌, ◌<◌, ℕ, true, None, ◌≤◌, arith}}
use Rattle.t1_font.{specs.{FontValue.{FontValue, declared_count}, IsFont.{IsFont}}, proofs.FontReaders.{subrs_seen}}
use Rattle.std.specs.FinMap as maps

-- a font has no Subr at its declared count or above it
pub absent_beyond : (f : FontValue) → IsFont f → (q : ℕ) → declared_count f.shell.subrs ≤ q → maps.get f.subrs q ≡ None
absent_beyond f h q l = let seen = subrs_seen f h q in grind (arith, nat_tests, seen)

-- each Subr that a font has is below its declared count
pub present_below : (f : FontValue) → IsFont f → (q : ℕ) → maps.contains_key f.subrs q ≡ true → q < declared_count f.shell.subrs
present_below f h q t = let seen = subrs_seen f h q in grind (arith, nat_tests, seen)
