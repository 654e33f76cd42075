-- Groups of files have each file as often as it is among the files.
use Rattle.std.proofs.Common.{◌≡◌, ◌+◌, ◌/◌, ℕ, zero, suc, Bool, true, false, cond, nat_le, List, [], ◌∷◌, ◌++◌, length, take, drop, refl, sym, ap, ◌∙◌, arith}
use Rattle.std.proofs.lemmas.{List.{take-append-drop}}
use Rattle.std.specs.{List.{flat_map}, Str.{bytes_eq}}
use Rattle.t1_classes.specs.Partition.{File, Fit, singles, group_before, halves_fitted, fitted_by, fitted, groups_from}
use Rattle.t1_classes.proofs.SortedFiles.{times}

-- the files of all groups
abbrev pub all_files : List (List File) → List File
all_files gs = flat_map (λ g. g) gs

module _ (x : File) where
  pub times_append : (fs gs : List File) → times x (fs ++ gs) ≡ times x fs + times x gs
  times_append [] gs = omega arith
  times_append (f ∷ fs) gs = omega (arith, times_append fs gs)

  times_halves : (n : ℕ) (fs : List File) → times x (take n fs) + times x (drop n fs) ≡ times x fs
  times_halves n fs = sym (times_append (take n fs) (drop n fs)) ∙ ap (times x) (take-append-drop n fs)

  times_singles : (fs : List File) → times x (all_files (singles fs)) ≡ times x fs
  times_singles [] = refl
  times_singles (f ∷ fs) = ap (λ (n : ℕ). cond (bytes_eq x f) 1 0 + n) (times_singles fs)

  times_group : (g left : List File) (more : List (List File)) → times x (all_files more) ≡ times x left →
      times x (all_files (group_before g left more)) ≡ times x g + times x left
  times_group [] left more e = omega (arith, times_singles left)
  times_group (f ∷ fs) left more e = times_append (f ∷ fs) (all_files more) ∙ ap (λ (n : ℕ). times x (f ∷ fs) + n) e

  module _ (joins : List File → Bool) where
    -- what is fitted and what is left over are the group and the files
    pub times_fitted : (n : ℕ) (g fs : List File) → times x (fitted joins n g fs).group + times x (fitted joins n g fs).left ≡ times x g + times x fs
    unfolding fitted
    times_fitted zero g fs = refl
    times_fitted (suc n) g fs =
        let h = length fs / 2 in
        let front = take h fs in
        let back = drop h fs in
        let first = fitted joins n g front in
        let second = fitted joins n first.group back in
        let whole : times x second.group + times x (first.left ++ second.left) ≡ times x g + times x fs =
        omega (arith, times_append first.left second.left, times_fitted n first.group back, times_fitted n g front, times_halves h fs) in
        by_tests (joins (g ++ fs)) (nat_le (length fs) 1) (halves_fitted (fitted joins n) g fs) whole
      where
        by_tests : (a b : Bool) (halves : Fit) → times x halves.group + times x halves.left ≡ times x g + times x fs →
            times x (fitted_by a b g fs halves).group + times x (fitted_by a b g fs halves).left ≡ times x g + times x fs
        by_tests true b halves e = omega (arith, times_append g fs)
        by_tests false true halves e = refl
        by_tests false false halves e = e

    pub times_groups : (n : ℕ) (fs : List File) → times x (all_files (groups_from joins n fs)) ≡ times x fs
    unfolding groups_from
    times_groups zero fs = times_singles fs
    times_groups (suc n) fs =
        let f = fitted joins (length fs) [] fs in
        times_group f.group f.left (groups_from joins n f.left) (times_groups n f.left) ∙ (times_fitted (length fs) [] fs ∙ omega arith)
