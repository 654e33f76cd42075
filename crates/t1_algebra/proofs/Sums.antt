-- Sums over the entries of tables: what they weigh, and how many glyphs they have.
use Rattle.std.proofs.Common.{◌≡◌, ℕ, ◌+◌, Bool, true, not, List, [], ◌∷◌, map, filter, length, refl, sym, ◌∙◌, ap, arith, Some}
use Rattle.t1_join.specs.{Meaning.{Meaning}, TableMeaning.{TableMeaning, TablesAgree, joined_table}, TableLaws.{get_joined}}
use Rattle.t1_font.specs.{Maps.{merged}, FontValue.{total, CharStrings}}
use Rattle.t1_font.proofs.{normal_fonts.FilledWeights.{total_split}, CutEntries.{entries-retain}, MapLemmas.{entries-map_values, entries_all, get-retain, length_total}}
use Rattle.t1_algebra.specs.StateTables.{name_meaning, name_counts, glyph_table, names_table, AreSought}
use Rattle.t1_algebra.proofs.{Words.{AllByRecursion, nat_list_cmp_total}, Sets.{name_same, cases}, Tables.{names_join, are_joined}}
use Rattle.std.specs.FinMap as maps

-- the sum over entries with other keys and values
pub total_mapped : {K X : Type 0} (k : K → Meaning) (v : X → Meaning) (w : Meaning → Meaning → ℕ) (es : List (K × X)) →
    total w (map (λ e. (k e.0, v e.1)) es) ≡ total (λ a b. w (k a) (v b)) es
total_mapped k v w [] = refl
total_mapped k v w (e ∷ es) = ap (λ n. w (k e.0) (v e.1) + n) (total_mapped k v w es)

module _ {K X : Type 0} (w : K → X → ℕ) where
  -- if the entries that pass a test weigh nothing, they sum to nothing
  total_none : (p : K × X → Bool) (es : List (K × X)) → AllByRecursion (λ e. p e ≡ true → w e.0 e.1 ≡ 0) es → total w (filter p es) ≡ 0
  total_none p [] h = refl
  total_none p (e ∷ es) h = grind (cases, h.0, total_none p es h.1)

  -- if the entries that fail a test weigh nothing, those that pass it sum to what all do
  pub total_kept : (p : K × X → Bool) (es : List (K × X)) → AllByRecursion (λ e. not (p e) ≡ true → w e.0 e.1 ≡ 0) es → total w (filter p es) ≡ total w es
  total_kept p es h = omega (arith, total_split w p es, total_none (λ e. not (p e)) es h)

-- sought names add nothing to a sum over names
pub names_total : (g : CharStrings) (s : TableMeaning) → AreSought s → (w : Meaning → Meaning → ℕ) → ((n : Meaning) → w n [] ≡ 0) →
    total w (maps.entries (names_table g s)) ≡ total (λ n c. w n (name_meaning (Some c))) (maps.entries g)
names_total g s are w none =
    let own = glyph_table g in
    let all = names_table g s in
    let has = λ (n : Meaning). maps.contains_key own n in
    let kept = maps.same_map nat_list_cmp_total name_same (maps.retain_keys all has) own
    (λ n. grind (cases, get-retain nat_list_cmp_total name_same all has n, get_joined own s n)) in
    sym (total_kept w (λ e. has e.0) (maps.entries all) (entries_all nat_list_cmp_total name_same
    (λ n v. not (has n) ≡ true → w n v ≡ 0) all (λ n v is new. grind (cases, get_joined own s n, is, new, are n, none n))))
    ∙ ap (total w) (sym (entries-retain nat_list_cmp_total name_same all has) ∙ ap maps.entries kept)
    ∙ ap (total w) (entries-map_values nat_list_cmp_total name_same (λ n c. name_meaning (Some c)) g)
    ∙ total_mapped (λ n. n) (λ c. name_meaning (Some c)) w (maps.entries g)

-- so names have as many glyphs as the table of glyphs
pub names_count : (g : CharStrings) (s : TableMeaning) → AreSought s → total name_counts (maps.entries (names_table g s)) ≡ maps.len g
names_count g s are = names_total g s are name_counts (λ n. refl) ∙ length_total (maps.entries g) ∙ sym (maps.len-entries g)

-- and the sum over joined names is that over the glyphs of both
pub joined_total : (g : CharStrings) (s : TableMeaning) → AreSought s → (t : TableMeaning) → names_table g s ≡ t →
    (h : CharStrings) (r : TableMeaning) → AreSought r → (u : TableMeaning) → names_table h r ≡ u → TablesAgree t u
    → (w : Meaning → Meaning → ℕ) → ((n : Meaning) → w n [] ≡ 0) →
    total w (maps.entries (joined_table t u)) ≡ total (λ n c. w n (name_meaning (Some c))) (maps.entries (merged g h))
joined_total g s are t is h r seek u so a w none =
    let sought = are_joined g s are t is h r seek u so (joined_table s r) refl in
    ap (λ (t : TableMeaning). total w (maps.entries t)) (sym (names_join g s are t is h r seek u so (merged g h) (joined_table s r) refl refl a))
    ∙ names_total (merged g h) (joined_table s r) sought w none

-- and joined names have as many glyphs as both tables of glyphs together
pub joined_count : (g : CharStrings) (s : TableMeaning) → AreSought s → (t : TableMeaning) → names_table g s ≡ t →
    (h : CharStrings) (r : TableMeaning) → AreSought r → (u : TableMeaning) → names_table h r ≡ u → TablesAgree t u
    → total name_counts (maps.entries (joined_table t u)) ≡ length (maps.entries (merged g h))
joined_count g s are t is h r seek u so a = joined_total g s are t is h r seek u so a name_counts (λ n. refl) ∙ length_total (maps.entries (merged g h))
