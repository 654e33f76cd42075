-- The parts of bytes are bytes, and so are bytes behind bytes.
use Rattle.std.proofs.Common.{◌≡◌, ℕ, zero, suc, List, [], ◌∷◌, ◌++◌, drop, subst}
use Rattle.t1_bytes.specs.Laws.{AreBytes}

pub AreBytes-append : (a b : List ℕ) → AreBytes a → AreBytes b → AreBytes (a ++ b)
AreBytes-append [] b h k = k
AreBytes-append (x ∷ a) b h k = (h.0, AreBytes-append a b h.1 k)

pub bytes_left : (a b : List ℕ) → AreBytes (a ++ b) → AreBytes a
bytes_left [] b h = tt
bytes_left (x ∷ a) b h = (h.0, bytes_left a b h.1)

pub bytes_right : (a b : List ℕ) → AreBytes (a ++ b) → AreBytes b
bytes_right [] b h = h
bytes_right (x ∷ a) b h = bytes_right a b h.1

-- the two parts of a text
pub parts_bytes : (text front back : List ℕ) → text ≡ front ++ back → AreBytes text → AreBytes front × AreBytes back
parts_bytes text front back e h = let k = subst AreBytes e h in (bytes_left front back k, bytes_right front back k)

pub drop_bytes : (n : ℕ) (bytes : List ℕ) → AreBytes bytes → AreBytes (drop n bytes)
drop_bytes zero bytes h = h
drop_bytes (suc n) [] h = tt
drop_bytes (suc n) (b ∷ bytes) h = drop_bytes n bytes h.1
