-- A partition of files into groups that join, by halves. Where `joins` says of a list of files whether all of it joins, the files alone, and not their places,
-- decide what the groups are.
use Rattle.std.specs.{Prelude.{ℕ, zero, suc, ◌+◌, ◌/◌, nat_le, Bool, true, false, List, [], ◌∷◌, ◌++◌, length, take, drop, map, Option, Some, None, if◌then◌else◌}}
use Rattle.std.specs.{Prelude.{slice_index_or, slice_set}, Option.{option_map_or}, List.{remove, list_any}, Ordering.{nat_cmp}, Cmp.Lexicographic.{slice_cmp}, Str.{bytes_eq}}
use Rattle.std.specs.{declared.cmp.Ordering.{Ordering}, declared.cmp.Ordering.TheVariants.{Less, Equal, Greater}}

-- the bytes of a file
abbrev pub File : Type 0
File = List ℕ

-- a file is among some
abbrev pub is_among : File → List File → Bool
is_among f gs = list_any (bytes_eq f) gs

-- ---- each file once

-- a file among sorted ones, of which the first one is compared with it like this
abbrev pub put_by : Ordering → File → File → List File → List File → List File
put_by Less f g gs more = f ∷ g ∷ gs
put_by Equal f g gs more = g ∷ gs
put_by Greater f g gs more = g ∷ more

-- sorted files with one more, unless it is one of them
abbrev pub put : File → List File → List File
put f [] = f ∷ []
put f (g ∷ gs) = put_by (slice_cmp nat_cmp f g) f g gs (put f gs)

-- sorted files with some more
abbrev pub put_all : List File → List File → List File
put_all gs [] = gs
put_all gs (f ∷ fs) = put_all (put f gs) fs

-- the files, each once, sorted by their bytes
abbrev pub distinct : List File → List File
distinct files = put_all [] files

-- ---- groups

-- a group of files, and the files that were left over
pub record Fit : Type 0 where
  pub group : List File
  pub left : List File

-- where `fit` fits files onto a group: the first half of some files, and then the second half onto what came out
abbrev pub halves_fitted : (List File → List File → Fit) → List File → List File → Fit
halves_fitted fit group files =
    let first = fit group (take (length files / 2) files) in
    let second = fit first.group (drop (length files / 2) files) in
    record { group = second.group; left = first.left ++ second.left }

-- files and a group that all join, or a file that doesn't, or what came of several files that don't
abbrev pub fitted_by : Bool → Bool → List File → List File → Fit → Fit
fitted_by true few group files halves = record { group = group ++ files; left = [] }
fitted_by false true group files halves = record { group = group; left = files }
fitted_by false false group files halves = halves

-- each file by itself
abbrev pub singles : List File → List (List File)
singles files = map (λ f. f ∷ []) files

-- a group before more; where it is empty, each file that was left over by itself
abbrev pub group_before : List File → List File → List (List File) → List (List File)
group_before [] left more = singles left
group_before (f ∷ fs) left more = (f ∷ fs) ∷ more

-- the second of two groups in the first
abbrev pub joined_at : List (List File) → ℕ × ℕ → List (List File)
joined_at gs x = slice_set (remove gs x.1) x.0 (slice_index_or gs x.0 [] ++ slice_index_or gs x.1 [])

-- two places, if there is a second one
abbrev pub pair_or : ℕ → Option ℕ → Option (ℕ × ℕ) → Option (ℕ × ℕ)
pair_or i None more = more
pair_or i (Some j) more = Some (i, j)

module _ (joins : List File → Bool) where
  -- Files fitted onto a group: all of them, if they join with it; else, if there are several, the first half, and then the second half onto what came out.
  -- For n files n steps suffice.
  unfoldable pub fitted : ℕ → List File → List File → Fit
  fitted zero group files = record { group = group; left = files }
  fitted (suc n) group files = fitted_by (joins (group ++ files)) (nat_le (length files) 1) group files (halves_fitted (fitted n) group files)

  -- The groups of files: the first is what is fitted onto no files, and what was left over makes the next ones. Where nothing is fitted, each is by itself.
  unfoldable pub groups_from : ℕ → List File → List (List File)
  groups_from zero files = singles files
  groups_from (suc n) files =
      group_before (fitted (length files) [] files).group (fitted (length files) [] files).left (groups_from n (fitted (length files) [] files).left)

  -- the place of the first group that joins with g, where the first of these has place j
  unfoldable pub partner_from : List File → ℕ → List (List File) → Option ℕ
  partner_from g j [] = None
  partner_from g j (h ∷ hs) = if joins (g ++ h) then Some j else partner_from g (j + 1) hs

  -- the places of the first two groups that join, where the first of these has place i
  unfoldable pub pair_from : ℕ → List (List File) → Option (ℕ × ℕ)
  pair_from i [] = None
  pair_from i (g ∷ gs) = pair_or i (partner_from g (i + 1) gs) (pair_from (i + 1) gs)

  -- groups of which no two join: the second of the first two that do goes into the first, as long as there are such; for n groups n steps suffice
  unfoldable pub settled : ℕ → List (List File) → List (List File)
  settled zero gs = gs
  settled (suc n) gs = option_map_or (λ x. settled n (joined_at gs x)) (pair_from 0 gs) gs

  -- groups, settled
  abbrev pub all_settled : List (List File) → List (List File)
  all_settled gs = settled (length gs) gs

  -- the groups of distinct files
  abbrev pub groups_of_distinct : List File → List (List File)
  groups_of_distinct files = all_settled (groups_from (length files) files)

  -- the groups of files
  abbrev pub groups : List File → List (List File)
  groups files = groups_of_distinct (distinct files)
