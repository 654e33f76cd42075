-- A listing that was written is read again.
use Rattle.std.proofs.Common.{◌≡◌, ◌+◌, ◌||◌, ℕ, refl, sym, ◌∙◌, ap, subst, List, [], ◌∷◌, ◌++◌, cond, Bool, true, false, T, None, Some, Ok, Err, ◌<◌, append_assoc, map}
use Rattle.std.proofs.lemmas.Cmp.{nat_list_cmp_total, tied_itself}
use Rattle.std.specs.{Prelude.{flat_map, slice_index}, List.{AllByRecursion, list_any}, Fmt.{decimal}, declared.cmp.Ordering.TheVariants.{Less}, Ordering.{eq_by_cmp, is_eq}}
use Rattle.std.specs.FinMap.Entries.{below_all}
use Rattle.hex.specs.Hex.{encode_lower}
use Rattle.t1_join.specs.{declared.listing.ListFault.TheVariants.{Repeated}, Meaning.{Meaning, meaning_cmp, of_number}, Join.{State, joined_state}, TableMeaning.{TableMeaning}, TableLaws.{same_table}}
use Rattle.t1_join.specs.ListingMeaning.{ListingMeaning, IsIndex, IsListing}
use Rattle.t1_join.specs.ListingText.{ListedEntry, subr, glyph, listing_lines, same_key, read_entry, read_lines, listing_from, listing_result, listing_of, subr_line, glyph_line, text_of}
use Rattle.t1_join.specs.LineMeaning.{IsEntry}
use Rattle.t1_join.proofs.{EntryLemmas.{same_by_cmp}, TreeEntries.{is_eq-Equal}, Sorted.{both_true, lt_is}, Merges.{find_below}, LineTexts.{bare_line, entry_read, line_first}}
use Rattle.std.specs.FinMap as fin

present_first : (b : Bool) (x : State) (v : Meaning) (z : State) → (b ≡ true → x ≡ None) →
    joined_state x (cond b (Some v) z) ≡ joined_state (cond b (Some v) x) z
present_first true None v z h = refl
present_first false None v z h = refl
present_first false (Some w) v z h = refl
present_first true (Some w) v z h = cc (h refl)

-- ---- entries, line by line

-- the lines of the entries, and then the rest
abbrev lines : List ListedEntry → List ℕ → List ℕ
lines [] rest = rest
lines (e ∷ es) rest = bare_line e ++ 10 ∷ lines es rest

lines-append : (es fs : List ListedEntry) (rest : List ℕ) → lines (es ++ fs) rest ≡ lines es (lines fs rest)
lines-append [] fs rest = refl
lines-append (e ∷ es) fs rest = ap (λ t. bare_line e ++ 10 ∷ t) (lines-append es fs rest)

-- the entries that were seen, once es are read
abbrev onto : List ListedEntry → List ListedEntry → List ListedEntry
onto [] seen = seen
onto (e ∷ es) seen = onto es (e ∷ seen)

-- no entry has the key of an earlier one
abbrev Apart : List ListedEntry → List ListedEntry → Type 0
Apart [] seen = Unit {0}
Apart (e ∷ es) seen = (list_any (same_key e) seen ≡ false) × Apart es (e ∷ seen)

read_all : (n : ℕ) (es seen : List ListedEntry) → AllByRecursion IsEntry es → Apart es seen →
    read_lines n seen (listing_lines (lines es [])).0 (listing_lines (lines es [])).1 ≡ Ok (onto es seen)
read_all n [] seen h a = refl
read_all n (e ∷ es) seen h a =
    ap (λ p. read_lines n seen p.0 p.1) (line_first e (lines es []) h.0)
    ∙ ap (λ x. read_entry n seen x (λ more. read_lines (n + 1) more (listing_lines (lines es [])).0 (listing_lines (lines es [])).1)) (entry_read e h.0)
    ∙ ap (λ t. cond t (Err (Repeated n)) (read_lines (n + 1) (e ∷ seen) (listing_lines (lines es [])).0 (listing_lines (lines es [])).1)) a.0
    ∙ read_all (n + 1) es (e ∷ seen) h.1 a.1

apart_append : (es fs seen : List ListedEntry) → Apart es seen → Apart fs (onto es seen) → Apart (es ++ fs) seen
apart_append [] fs seen a b = b
apart_append (e ∷ es) fs seen a b = (a.0, apart_append es fs (e ∷ seen) a.1 b)

onto-append : (es fs seen : List ListedEntry) → onto (es ++ fs) seen ≡ onto fs (onto es seen)
onto-append [] fs seen = refl
onto-append (e ∷ es) fs seen = onto-append es fs (e ∷ seen)

all_append : (P : ListedEntry → Type 0) (es fs : List ListedEntry) → AllByRecursion P es → AllByRecursion P fs → AllByRecursion P (es ++ fs)
all_append P [] fs h k = k
all_append P (e ∷ es) fs h k = (h.0, all_append P es fs h.1 k)

all_map : {A B : Type 0} (P : B → Type 0) (f : A → B) (xs : List A) → AllByRecursion (λ x. P (f x)) xs → AllByRecursion P (map f xs)
all_map P f [] h = tt
all_map P f (x ∷ xs) h = (h.0, all_map P f xs h.1)

-- ---- the entries of a table, in the order of its keys

-- a key above another is not equal to it
above_differs : (k q : Meaning) → meaning_cmp k q ≡ Less → eq_by_cmp meaning_cmp q k ≡ false
above_differs k q l = by (eq_by_cmp meaning_cmp q k) refl
  where
    by : (b : Bool) → eq_by_cmp meaning_cmp q k ≡ b → eq_by_cmp meaning_cmp q k ≡ false
    by false e = e
    by true e =
        let same : q ≡ k = same_by_cmp q k (is_eq-Equal (meaning_cmp q k) e) in
        let less : meaning_cmp k k ≡ Less = ap (meaning_cmp k) (sym same) ∙ l in
        let tied : is_eq (meaning_cmp k k) ≡ true = ap is_eq (tied_itself nat_list_cmp_total k) in
        let never : false ≡ true = sym (ap is_eq less) ∙ tied in
        cc

-- the entries that are found at their keys
each_found : (P : Meaning → Meaning → Type 0) (es : List (Meaning × Meaning)) → T (fin.is_sorted meaning_cmp es) →
    ((k v : Meaning) → fin.find meaning_cmp k es ≡ Some v → P k v) → AllByRecursion (λ e. P e.0 e.1) es
each_found P [] s h = tt
each_found P (e ∷ es) s h = (
  h e.0 e.1 (ap (λ o. cond (is_eq o) (Some e.1) (fin.find meaning_cmp e.0 es)) (tied_itself nat_list_cmp_total e.0)),
  each_found P es (both_true _ _ s).1 (λ k v f. h k v (later k v f (eq_by_cmp meaning_cmp k e.0) refl)),
)
  where
    later : (k v : Meaning) → fin.find meaning_cmp k es ≡ Some v → (b : Bool) → eq_by_cmp meaning_cmp k e.0 ≡ b →
        cond (eq_by_cmp meaning_cmp k e.0) (Some e.1) (fin.find meaning_cmp k es) ≡ Some v
    later k v f false t = ap (λ b. cond b (Some e.1) (fin.find meaning_cmp k es)) t ∙ f
    later k v f true t =
        let same : k ≡ e.0 = same_by_cmp k e.0 (is_eq-Equal (meaning_cmp k e.0) t) in
        let none : fin.find meaning_cmp k es ≡ None = ap (λ q. fin.find meaning_cmp q es) same ∙ find_below nat_list_cmp_total e.0 es (both_true _ _ s).0 in
        let never : None ≡ Some v = sym none ∙ f in
        absurd (none_some never)
      where
        none_some : None ≡ Some v → ⊥
        none_some e = cc

each_entry : (P : Meaning → Meaning → Type 0) (m : TableMeaning) → ((k v : Meaning) → fin.get m k ≡ Some v → P k v) →
    AllByRecursion (λ e. P e.0 e.1) (fin.entries m)
each_entry P m h = each_found P (fin.entries m) (fin.entries_sorted m) (λ k v f. h k v (fin.get-entries m k ∙ f))

-- the table with the entries put in one after the other
abbrev put_all : List (Meaning × Meaning) → TableMeaning → TableMeaning
put_all [] m = m
put_all (e ∷ es) m = put_all es (fin.insert m e.0 e.1)

abbrev value_at : TableMeaning → Meaning → State
value_at m q = fin.get m q

get_all : (es : List (Meaning × Meaning)) (m : TableMeaning) (q : Meaning) → T (fin.is_sorted meaning_cmp es) →
    value_at (put_all es m) q ≡ joined_state (fin.find meaning_cmp q es) (fin.get m q)
get_all [] m q s = refl
get_all (e ∷ es) m q s =
    get_all es (fin.insert m e.0 e.1) q (both_true _ _ s).1
    ∙ ap (joined_state (fin.find meaning_cmp q es)) (fin.get-insert nat_list_cmp_total m e.0 e.1 q)
    ∙ present_first (eq_by_cmp meaning_cmp q e.0) (fin.find meaning_cmp q es) e.1 (fin.get m q) (λ t.
    ap (λ k. fin.find meaning_cmp k es) (same_by_cmp q e.0 (is_eq-Equal (meaning_cmp q e.0) t)) ∙ find_below nat_list_cmp_total e.0 es (both_true _ _ s).0)

state_none : (x : State) → joined_state x None ≡ x
state_none None = refl
state_none (Some v) = refl

put_entries : (m : TableMeaning) → put_all (fin.entries m) fin.empty ≡ m
put_entries m = same_table _ _ (λ q.
    get_all (fin.entries m) fin.empty q (fin.entries_sorted m)
    ∙ ap (joined_state (fin.find meaning_cmp q (fin.entries m))) (fin.get-empty meaning_cmp q)
    ∙ state_none (fin.find meaning_cmp q (fin.entries m))
    ∙ sym (fin.get-entries m q))

-- entries that are made of a table's are apart
module _ (made : Meaning × Meaning → ListedEntry) (Good : Meaning → Type 0)
    (keyed : (e f : Meaning × Meaning) → Good e.0 → Good f.0 → same_key (made f) (made e) ≡ eq_by_cmp meaning_cmp f.0 e.0) where
  abbrev Fresh : List (Meaning × Meaning) → List ListedEntry → Type 0
  Fresh es seen = AllByRecursion (λ e. list_any (same_key (made e)) seen ≡ false) es

  fresh_after : (e : Meaning × Meaning) (es : List (Meaning × Meaning)) (seen : List ListedEntry) → Good e.0 →
      AllByRecursion (λ f. Good f.0) es → T (below_all meaning_cmp e.0 es) → Fresh es seen → Fresh es (made e ∷ seen)
  fresh_after e [] seen g gs s h = tt
  fresh_after e (f ∷ fs) seen g gs s h =
      let apart : same_key (made f) (made e) ≡ false = keyed e f g gs.0 ∙ above_differs e.0 f.0 (lt_is (meaning_cmp e.0 f.0) (both_true _ _ s).0) in
      (ap (λ b. b || list_any (same_key (made f)) seen) apart ∙ h.0, fresh_after e fs seen g gs.1 (both_true _ _ s).1 h.1)

  apart_entries : (es : List (Meaning × Meaning)) (seen : List ListedEntry) → AllByRecursion (λ f. Good f.0) es → T (fin.is_sorted meaning_cmp es) →
      Fresh es seen →
      Apart (map made es) seen
  apart_entries [] seen g s h = tt
  apart_entries (e ∷ es) seen g s h = (h.0, apart_entries es (made e ∷ seen) g.1 (both_true _ _ s).1 (fresh_after e es seen g.0 g.1 (both_true _ _ s).0 h.1))

-- ---- a listing's entries

abbrev subr_entry : Meaning × Meaning → ListedEntry
subr_entry e = subr (slice_index e.0 0) e.1

abbrev glyph_entry : Meaning × Meaning → ListedEntry
glyph_entry e = glyph e.0 e.1

abbrev with_subrs : TableMeaning → TableMeaning → ListingMeaning
with_subrs m n = record { subrs = m; glyphs = n }

abbrev all_entries : ListingMeaning → List ListedEntry
all_entries l = map subr_entry (fin.entries l.subrs) ++ map glyph_entry (fin.entries l.glyphs)

number_is : (k : Meaning) → IsIndex k → of_number (slice_index k 0) ≡ k
number_is k h = ap (λ x. of_number (slice_index x 0)) h.is ∙ sym h.is

subr_keyed : (e f : Meaning × Meaning) → IsIndex e.0 → IsIndex f.0 → same_key (subr_entry f) (subr_entry e) ≡ eq_by_cmp meaning_cmp f.0 e.0
subr_keyed e f g h = ap (λ k. eq_by_cmp meaning_cmp k (of_number (slice_index e.0 0))) (number_is f.0 h) ∙ ap (eq_by_cmp meaning_cmp f.0) (number_is e.0 g)

nothing_seen : (es : List (Meaning × Meaning)) → AllByRecursion (λ e. list_any (same_key (subr_entry e)) [] ≡ false) es
nothing_seen [] = tt
nothing_seen (e ∷ es) = (refl, nothing_seen es)

no_glyph_seen : (n v : List ℕ) (es : List (Meaning × Meaning)) (seen : List ListedEntry) → list_any (same_key (glyph n v)) seen ≡ false →
    list_any (same_key (glyph n v)) (onto (map subr_entry es) seen) ≡ false
no_glyph_seen n v [] seen h = h
no_glyph_seen n v (e ∷ es) seen h = no_glyph_seen n v es (subr_entry e ∷ seen) h

no_glyphs_seen : (es gs : List (Meaning × Meaning)) → AllByRecursion (λ e. list_any (same_key (glyph_entry e)) (onto (map subr_entry es) []) ≡ false) gs
no_glyphs_seen es [] = tt
no_glyphs_seen es (g ∷ gs) = (no_glyph_seen g.0 g.1 es [] refl, no_glyphs_seen es gs)

any_name : (gs : List (Meaning × Meaning)) → AllByRecursion (λ e. Unit {0}) gs
any_name [] = tt
any_name (g ∷ gs) = (tt, any_name gs)

entries_apart : (l : ListingMeaning) → IsListing l → Apart (all_entries l) []
entries_apart l h =
    apart_append (map subr_entry (fin.entries l.subrs)) (map glyph_entry (fin.entries l.glyphs)) []
    (apart_entries subr_entry IsIndex subr_keyed (fin.entries l.subrs) []
    (each_entry (λ k v. IsIndex k) l.subrs h.indices) (fin.entries_sorted l.subrs) (nothing_seen (fin.entries l.subrs)))
    (apart_entries glyph_entry (λ k. Unit {0}) (λ e f g h. refl) (fin.entries l.glyphs) _ (any_name (fin.entries l.glyphs))
    (fin.entries_sorted l.glyphs) (no_glyphs_seen (fin.entries l.subrs) (fin.entries l.glyphs)))

entries_fit : (l : ListingMeaning) → IsListing l → AllByRecursion IsEntry (all_entries l)
entries_fit l h =
    all_append IsEntry (map subr_entry (fin.entries l.subrs)) (map glyph_entry (fin.entries l.glyphs))
    (all_map IsEntry subr_entry (fin.entries l.subrs)
    (each_entry (λ k v. IsEntry (subr_entry (k, v))) l.subrs (λ k v e. (small k (h.indices k v e), h.subr_values k v e))))
    (all_map IsEntry glyph_entry (fin.entries l.glyphs)
    (each_entry (λ k v. IsEntry (glyph_entry (k, v))) l.glyphs (λ k v e. (h.names k v e, h.glyph_values k v e))))
  where
    small : (k : Meaning) → IsIndex k → slice_index k 0 < 65535
    small k i = subst (λ x. slice_index x 0 < 65535) (sym i.is) i.small

subrs_from : (es : List (Meaning × Meaning)) (seen : List ListedEntry) → AllByRecursion (λ e. IsIndex e.0) es →
    listing_from (onto (map subr_entry es) seen) ≡ record { subrs = put_all es (listing_from seen).subrs; glyphs = (listing_from seen).glyphs }
subrs_from [] seen h = refl
subrs_from (e ∷ es) seen h =
    subrs_from es (subr_entry e ∷ seen) h.1
    ∙ ap (λ k. with_subrs (put_all es (fin.insert (listing_from seen).subrs k e.1)) (listing_from seen).glyphs) (number_is e.0 h.0)

glyphs_from : (es : List (Meaning × Meaning)) (seen : List ListedEntry) →
    listing_from (onto (map glyph_entry es) seen) ≡ record { subrs = (listing_from seen).subrs; glyphs = put_all es (listing_from seen).glyphs }
glyphs_from [] seen = refl
glyphs_from (e ∷ es) seen = glyphs_from es (glyph_entry e ∷ seen)

listing_again : (l : ListingMeaning) → IsListing l → listing_from (onto (all_entries l) []) ≡ l
listing_again l h =
    ap listing_from (onto-append (map subr_entry (fin.entries l.subrs)) (map glyph_entry (fin.entries l.glyphs)) [])
    ∙ glyphs_from (fin.entries l.glyphs) (onto (map subr_entry (fin.entries l.subrs)) [])
    ∙ ap (λ m. with_subrs m.subrs (put_all (fin.entries l.glyphs) m.glyphs))
    (subrs_from (fin.entries l.subrs) [] (each_entry (λ k v. IsIndex k) l.subrs h.indices))
    ∙ ap (λ m. with_subrs m (put_all (fin.entries l.glyphs) fin.empty)) (put_entries l.subrs)
    ∙ ap (λ m. with_subrs l.subrs m) (put_entries l.glyphs)

-- ---- the text of a listing

-- a line's end, before what follows
line_end : (key hex rest : List ℕ) → (key ++ 32 ∷ (hex ++ 10 ∷ [])) ++ rest ≡ (key ++ 32 ∷ hex) ++ 10 ∷ rest
line_end key hex rest = simp append_assoc

subr_lines : (es : List (Meaning × Meaning)) (rest : List ℕ) → flat_map subr_line es ++ rest ≡ lines (map subr_entry es) rest
subr_lines [] rest = refl
subr_lines (e ∷ es) rest =
    append_assoc (subr_line e) (flat_map subr_line es) rest
    ∙ ap (λ t. 83 ∷ 32 ∷ t) (line_end (decimal (slice_index e.0 0)) (encode_lower e.1) (flat_map subr_line es ++ rest))
    ∙ ap (λ t. bare_line (subr_entry e) ++ 10 ∷ t) (subr_lines es rest)

glyph_lines : (es : List (Meaning × Meaning)) → flat_map glyph_line es ≡ lines (map glyph_entry es) []
glyph_lines [] = refl
glyph_lines (e ∷ es) =
    ap (λ t. 71 ∷ 32 ∷ t) (line_end e.0 (encode_lower e.1) (flat_map glyph_line es))
    ∙ ap (λ t. bare_line (glyph_entry e) ++ 10 ∷ t) (glyph_lines es)

text_is : (l : ListingMeaning) → text_of l ≡ lines (all_entries l) []
text_is l =
    subr_lines (fin.entries l.subrs) (flat_map glyph_line (fin.entries l.glyphs))
    ∙ ap (lines (map subr_entry (fin.entries l.subrs))) (glyph_lines (fin.entries l.glyphs))
    ∙ sym (lines-append (map subr_entry (fin.entries l.subrs)) (map glyph_entry (fin.entries l.glyphs)) [])

-- the text of a listing spells it
pub read_written : (l : ListingMeaning) → IsListing l → listing_of (text_of l) ≡ Ok l
read_written l h =
    ap listing_of (text_is l)
    ∙ ap listing_result (read_all 1 (all_entries l) [] (entries_fit l h) (entries_apart l h))
    ∙ ap Ok (listing_again l h)
