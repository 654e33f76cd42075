-- Tables of lent entries: what stands at a key of a map, and what a tree held.
use Rattle.std.proofs.{Common.{◌≡◌, ℕ, zero, suc, Ordering, List, [], ◌∷◌, map, Option, Some, None, refl, sym, ap, subst, ◌∙◌}, lemmas.Option.{none-some, same_Some}}
use Rattle.std.specs.{Borrow.{Bor}, BTreeMap.{insert_entry}, List.Sorted.{IsStrictlySortedBy}, List.{slice_get, AllByRecursion}, Map.{keys_of, values_of}}
use Rattle.std.specs.{Option.{option_map}, declared.cmp.Ordering.TheVariants.{Less, Equal, Greater}, Ordering.{match_ordering}}
use Rattle.std.specs.{Cmp.{IsTotalOrder}, Cmp.Lexicographic.{nat_list_cmp_total}, FinSet.{IsAntisymmetric}}
use Rattle.std.specs.FinMap.{FinMap, get, entries, get-from_entries, get-empty, insert, empty, from_sorted, same_map}
use Rattle.t1_join.{specs.TableMeaning.{Rises}, proofs.{Sorted.{map_of}, TreeEntries.{map_insert, sorted_entries, map_sorted}}}
use Rattle.t1_font.specs.{declared.lent.Glyph.{Glyph}, FontValue.{name_cmp}, Lent.{lent_glyph, keyed_glyph, AreOwn, glyph_names}, Maps.{put_all_into, entry_of}}
use Rattle.t1_font.proofs.{MapLemmas.{entries_all}, canonical.FontAgain.{name_same}}

-- a table whose entries are a map's is the map
pub same_table : {K X : Type 0} {R : K → K → Ordering} (own m : FinMap R X) (es : List (K × X)) → es ≡ entries own → from_sorted es ≡ m → own ≡ m
same_table own m es form is = sym (map_of es own form) ∙ is

-- an entry that is the key with what a map has there
module _ {K X : Type 0} (q : K) where
  again : (o : Option X) → option_map (λ (e : K × X). e.1) (option_map (λ b. (q, b)) o) ≡ o
  again None = refl
  again (Some b) = refl

  pub value_there : (r : Option (K × X)) (o : Option X) → r ≡ option_map (λ b. (q, b)) o → option_map (λ e. e.1) r ≡ o
  value_there r o h = ap (option_map (λ (e : K × X). e.1)) h ∙ again o

  pub key_there : (e : K × X) (o : Option X) → Some e ≡ option_map (λ b. (q, b)) o → e.0 ≡ q
  key_there e None h = absurd (none-some e (sym h))
  key_there e (Some b) h = cc

-- what stands at a place of a map's entries, stands at its key
module _ {K X : Type 0} {R : K → K → Ordering} (o : IsTotalOrder R) (same : IsAntisymmetric R) (m : FinMap R X) where
  among : (es : List (K × X)) (i : ℕ) (e : K × X) → AllByRecursion (λ x. get m x.0 ≡ Some x.1) es → slice_get es i ≡ Some e → get m e.0 ≡ Some e.1
  among [] i e all h = absurd (none-some e h)
  among (x ∷ es) zero e all h = subst (λ (y : K × X). get m y.0 ≡ Some y.1) (same_Some x e h) all.0
  among (x ∷ es) (suc i) e all h = among es i e all.1 h

  pub value_at : (i : ℕ) (e : K × X) → slice_get (entries m) i ≡ Some e → get m e.0 ≡ Some e.1
  value_at i e h = among (entries m) i e (entries_all o same (λ k v. get m k ≡ Some v) m (λ k v is. is)) h

-- ---- glyphs under names in a tree

-- the order of lent names
abbrev pub lent_cmp : Bor (List ℕ) → Bor (List ℕ) → Ordering
lent_cmp x y = name_cmp x.now y.now

-- the entries seen by the glyphs' own names
own_names : (es : List (Bor (List ℕ) × Glyph)) → AreOwn es → map keyed_glyph es ≡ map lent_glyph (values_of es)
own_names [] h = refl
own_names (e ∷ es) h = λ i. (h.0 i, (lent_glyph e.1).1) ∷ own_names es h.1 i

-- the names stay the glyphs' own where a glyph is put under its name
pub own_put : (es : List (Bor (List ℕ) × Glyph)) (name : Bor (List ℕ)) (g : Glyph) → name.now ≡ (lent_glyph g).0 → AreOwn es →
    AreOwn (insert_entry lent_cmp es name g)
own_put [] name g own h = (own, tt)
own_put (e ∷ es) name g own h =
    elim (lent_cmp name e.0)
    as (λ r. lent_cmp name e.0 ≡ r → AreOwn (match_ordering r ((name, g) ∷ e ∷ es) ((e.0, g) ∷ es) (e ∷ insert_entry lent_cmp es name g))) [
      | Less ↦ λ is. (own, h)
      | Equal ↦ λ is. (sym (name_same name.now e.0.now is) ∙ own, h.1)
      | Greater ↦ λ is. (h.0, own_put es name g own h.1)
    ] refl

-- a glyph put into the tree
glyph_put : (es : List (Bor (List ℕ) × Glyph)) (name : Bor (List ℕ)) (g : Glyph) →
    glyph_names (insert_entry lent_cmp es name g) ≡ insert (glyph_names es) name.now (lent_glyph g).1
glyph_put es name g = map_insert (λ k. k.now) (λ (g : Glyph). (lent_glyph g).1) lent_cmp name_cmp nat_list_cmp_total name_same (λ x y. refl) es name g

-- the tree's glyphs rise, and are those of its map
pub glyphs_rise : (es : List (Bor (List ℕ) × Glyph)) → AreOwn es → IsStrictlySortedBy lent_cmp (keys_of es) → Rises name_cmp (map lent_glyph (values_of es))
glyphs_rise es own h = subst (Rises name_cmp) (own_names es own)
    (sorted_entries (λ k. k.now) (λ (g : Glyph). (lent_glyph g).1) lent_cmp name_cmp nat_list_cmp_total name_same (λ x y. refl) es h)

pub glyphs_sorted : (es : List (Bor (List ℕ) × Glyph)) → AreOwn es → IsStrictlySortedBy lent_cmp (keys_of es) →
    from_sorted (map lent_glyph (values_of es)) ≡ glyph_names es
glyphs_sorted es own h =
    ap (from_sorted {R = name_cmp}) (sym (own_names es own))
    ∙ map_sorted (λ k. k.now) (λ (g : Glyph). (lent_glyph g).1) lent_cmp name_cmp nat_list_cmp_total name_same (λ x y. refl) es h

-- no glyphs
pub no_glyphs : glyph_names [] ≡ empty
no_glyphs = same_map nat_list_cmp_total name_same _ _ (λ q. get-from_entries nat_list_cmp_total [] q ∙ sym (get-empty name_cmp q))

-- a glyph that is found, put
pub found_put : (es next : List (Bor (List ℕ) × Glyph)) (k : List ℕ) (name : Bor (List ℕ)) (g : Glyph) (v : Option (List ℕ)) →
    Some (lent_glyph g) ≡ option_map (λ b. (k, b)) v → name.now ≡ (lent_glyph g).0 → next ≡ insert_entry lent_cmp es name g →
    glyph_names next ≡ put_all_into (glyph_names es) (entry_of k v)
found_put es next k name g v found own put =
    let key : name.now ≡ k = own ∙ key_there k (lent_glyph g) v found in
    ap glyph_names put ∙ (glyph_put es name g ∙ (ap (λ x. insert (glyph_names es) x (lent_glyph g).1) key
    ∙ ap (λ o. put_all_into (glyph_names es) (entry_of k o)) (value_there k (Some (lent_glyph g)) v found)))
