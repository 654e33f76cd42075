-- Indices as finite sets, and those of the Subrs that the glyphs of a closure execute, as the closure is walked.
use Rattle.std.proofs.{Common.{◌≡◌, ℕ, Bool, ◌||◌, List, [], ◌∷◌, ◌++◌, sym, ◌∙◌, ap, ◌+◌, ◌<◌, ◌≤◌, length, take, take_all, get_or}, lemmas.List.Folds.{list_any_more, list_any-append}}
use Rattle.std.specs.{List.{list_any}, Ordering.{nat_cmp, eq_by_cmp}, Cmp.{nat_cmp_total, both_ways}, Cmp.Lexicographic.{nat_list_cmp_total}, BTreeSet.{insert_key}, FinSet.{nat_cmp-IsAntisymmetric}}
use Rattle.t1_run.specs.Run.{Subrs, calls, calls3, with_indices, with_executed, exec}
use Rattle.t1_font.specs.FontValue.{name_cmp, FontValue}
use Rattle.t1_algebra.specs.{Interpreter.{Numbers, Names}, Keep.{called_by}, Profile.{profile, set_of}}
use Rattle.t1_algebra.proofs.Sets.{cases, name_same, any_at, any_one, any_flat_map, in_list, from_in_list, in_items, from_in_items}
use Rattle.t1_subset.proofs.{closing.NameSets.{any_insert}, closing.Runs.{calls_by, calls_of}}
use Rattle.std.specs.FinSet as sets

-- a set to which indices are added has these and those that it had
pub any_with : (q : ℕ) (set is : List ℕ) →
    list_any (eq_by_cmp nat_cmp q) (with_indices set is) ≡ (list_any (eq_by_cmp nat_cmp q) set || list_any (eq_by_cmp nat_cmp q) is)
any_with q set [] = grind cases
any_with q set (i ∷ is) = grind (cases, any_with q (insert_key nat_cmp set i) is, any_insert nat_cmp nat_cmp-IsAntisymmetric (λ k. k) q i set)

-- adding what a charstring executes is a union
pub of_executed : (set : List ℕ) (subrs : Subrs) (c : List ℕ) → set_of (with_executed set subrs c) ≡ sets.union (set_of set) (set_of (exec subrs c))
of_executed set subrs c =
    let first : List ℕ = calls subrs c in
    let second : List ℕ = calls3 subrs c in
    sets.same_set nat_cmp_total nat_cmp-IsAntisymmetric _ _ (λ q.
    let more = λ (s : List ℕ). any_with q (with_indices s first) second ∙ ap (λ b. b || list_any (eq_by_cmp nat_cmp q) second) (any_with q s first) in
    grind (cases, more set, more [], sets.contains-from_list nat_cmp_total, sets.contains-union nat_cmp_total (set_of set) (set_of (exec subrs c)) q))

-- nothing is added by the empty list
pub union_none : (s : Numbers) → sets.union s (set_of []) ≡ s
union_none s = sets.same_set nat_cmp_total nat_cmp-IsAntisymmetric _ s
    (λ q. grind (cases, sets.contains-union nat_cmp_total s (set_of []) q, sets.contains-from_list nat_cmp_total [] q))

-- the union of the empty set and another is the other
pub none_union : (s : Numbers) → sets.union (set_of []) s ≡ s
none_union s = sets.same_set nat_cmp_total nat_cmp-IsAntisymmetric _ s
    (λ q. grind (cases, sets.contains-union nat_cmp_total (set_of []) s q, sets.contains-from_list nat_cmp_total [] q))

-- a test passes for a name of a list if it does for a member of the set of the list
any_member : (p : List ℕ → Bool) (ns : List (List ℕ)) → list_any p ns ≡ list_any p (sets.items (sets.from_list {R = name_cmp} ns))
any_member p ns =
    let set : Names = sets.from_list ns in
    both_ways _ _
    (λ h. let one = any_one nat_list_cmp_total name_same p ns h in any_at nat_list_cmp_total name_same p one.0 (sets.items set)
    (in_items nat_list_cmp_total name_same set one.0 (from_in_list nat_list_cmp_total name_same ns one.0 one.1)) one.2)
    (λ h. let one = any_one nat_list_cmp_total name_same p (sets.items set) h in any_at nat_list_cmp_total name_same p one.0 ns
    (in_list nat_list_cmp_total name_same ns one.0 (from_in_items nat_list_cmp_total name_same set one.0 one.1)) one.2)

-- ---- the Subrs of a closure

-- the indices that are always kept
abbrev low : List ℕ
low = 0 ∷ 1 ∷ 2 ∷ 3 ∷ []

-- the indices 0 to 3, and those that the glyphs of these names execute
abbrev pub calls_to : FontValue → List (List ℕ) → Numbers
calls_to f ns = sets.from_list (low ++ calls_of f ns)

module _ (f : FontValue) where
  -- the glyph of this name executes the index
  abbrev runs : ℕ → List ℕ → Bool
  runs q n = list_any (eq_by_cmp nat_cmp q) (sets.items (calls_by f n))

  in_calls : (ns : List (List ℕ)) (q : ℕ) → sets.contains (calls_to f ns) q ≡ (list_any (eq_by_cmp nat_cmp q) low || list_any (runs q) ns)
  in_calls ns q = sets.contains-from_list nat_cmp_total (low ++ calls_of f ns) q ∙ list_any-append (eq_by_cmp nat_cmp q) low (calls_of f ns)
      ∙ ap (λ b. list_any (eq_by_cmp nat_cmp q) low || b) (any_flat_map (eq_by_cmp nat_cmp q) (λ n. sets.items (calls_by f n)) ns)

  -- the calls of one more name are added
  pub calls_step : (ns : List (List ℕ)) (i : ℕ) (n : List ℕ) (s new : Numbers) → i < length ns → get_or ns i n ≡ n →
      s ≡ calls_to f (take i ns) → new ≡ sets.union s (calls_by f n) → new ≡ calls_to f (take (i + 1) ns)
  calls_step ns i n s new h e is more = sets.same_set nat_cmp_total nat_cmp-IsAntisymmetric new (calls_to f (take (i + 1) ns)) (λ q.
      grind (
        cases,
        more,
        is,
        e,
        sets.contains-union nat_cmp_total s (calls_by f n) q,
        in_calls (take i ns) q,
        sets.contains-items (calls_by f n) q,
        list_any_more (runs q) ns i n h,
        in_calls (take (i + 1) ns) q,
      ))

  -- at the end of the list these are the Subrs that the set of all names executes
  pub calls_end : (ns : List (List ℕ)) (i : ℕ) (s : Numbers) (k : Names) → length ns ≤ i → s ≡ calls_to f (take i ns) → sets.from_list ns ≡ k →
      s ≡ called_by profile f k
  calls_end ns i s k h is e =
      let same = sets.same_set nat_cmp_total nat_cmp-IsAntisymmetric (calls_to f ns) (calls_to f (sets.items (sets.from_list {R = name_cmp} ns))) (λ q.
      in_calls ns q ∙ ap (λ b. list_any (eq_by_cmp nat_cmp q) low || b) (any_member (runs q) ns) ∙ sym (in_calls (sets.items (sets.from_list ns)) q)) in
      is ∙ ap (calls_to f) (take_all i ns h) ∙ same ∙ ap (called_by profile f) e
