-- Worked rows of the definitions, computed.
use Rattle.std.{proofs.Common.{◌≡◌, ℕ, Bool, false, List, [], ◌∷◌, Some, refl}, specs.{List.{list_all}, Str.{bytes_eq}}}
use Rattle.t1_classes.specs.Partition.{File, distinct, fitted, groups_from, partner_from, pair_from, joined_at, settled, groups}
use Rattle.t1_classes.specs.Classes.{places_of}

-- ---- files whose first bytes are equal join

starts : File → ℕ
starts [] = 0
starts (b ∷ bs) = b

alike_with : ℕ → List File → Bool
alike_with b fs = list_all (λ f. bytes_eq (starts f ∷ []) (b ∷ [])) fs

-- no files don't join
alike : List File → Bool
alike [] = false
alike (f ∷ fs) = alike_with (starts f) fs

a : File
a = 1 ∷ []

b : File
b = 1 ∷ 2 ∷ []

c : File
c = 2 ∷ []

d : File
d = 1 ∷ 3 ∷ []

each_once : distinct (c ∷ b ∷ a ∷ c ∷ b ∷ []) ≡ a ∷ b ∷ c ∷ []
unfolding a b c
each_once = refl

places : places_of (c ∷ b ∷ a ∷ c ∷ []) (c ∷ a ∷ []) ≡ 0 ∷ 2 ∷ 3 ∷ []
unfolding a b c
places = refl

-- one odd file is left over
one_odd : fitted alike 4 [] (a ∷ b ∷ c ∷ d ∷ []) ≡ record { group = a ∷ b ∷ d ∷ []; left = c ∷ [] }
unfolding fitted alike alike_with starts a b c d
one_odd = refl

-- onto a group that it doesn't join with nothing is fitted
none_fits : fitted alike 2 (c ∷ []) (a ∷ b ∷ []) ≡ record { group = c ∷ []; left = a ∷ b ∷ [] }
unfolding fitted alike alike_with starts a b c
none_fits = refl

two_groups : groups_from alike 4 (a ∷ b ∷ c ∷ d ∷ []) ≡ (a ∷ b ∷ d ∷ []) ∷ (c ∷ []) ∷ []
unfolding groups_from fitted alike alike_with starts a b c d
two_groups = refl

in_any_order : groups alike (d ∷ c ∷ d ∷ b ∷ a ∷ []) ≡ (a ∷ b ∷ d ∷ []) ∷ (c ∷ []) ∷ []
unfolding settled pair_from partner_from groups_from fitted alike alike_with starts a b c d
in_any_order = refl

no_files : groups alike [] ≡ []
unfolding settled groups_from fitted
no_files = refl

-- ---- files that join with none

never : List File → Bool
never fs = false

each_by_itself : groups never (c ∷ a ∷ b ∷ []) ≡ (a ∷ []) ∷ (b ∷ []) ∷ (c ∷ []) ∷ []
unfolding settled pair_from partner_from groups_from fitted never a b c
each_by_itself = refl

-- ---- groups that join though they weren't fitted

second_pair : pair_from alike 0 ((c ∷ []) ∷ (a ∷ []) ∷ (b ∷ []) ∷ []) ≡ Some (1, 2)
unfolding pair_from partner_from alike alike_with starts a b c
second_pair = refl

put_together : joined_at ((c ∷ []) ∷ (a ∷ []) ∷ (b ∷ []) ∷ (d ∷ []) ∷ []) (1, 3) ≡ (c ∷ []) ∷ (a ∷ d ∷ []) ∷ (b ∷ []) ∷ []
unfolding a b c d
put_together = refl

all_together : settled alike 4 ((c ∷ []) ∷ (a ∷ []) ∷ (b ∷ []) ∷ (d ∷ []) ∷ []) ≡ (c ∷ []) ∷ (a ∷ b ∷ d ∷ []) ∷ []
unfolding settled pair_from partner_from alike alike_with starts a b c d
all_together = refl
