-- The reading of a listing whose keys are compared when all lines are read.
use Rattle.std.proofs.Common.{◌≡◌, ◌≤◌, ◌+◌, ℕ, refl, sym, ◌∙◌, ap, subst, List, [], ◌∷◌, ◌++◌, length, cond, Bool, true, false, None, Some, Result, Ok, Err, ◌||◌}
use Rattle.std.proofs.{lemmas.Cmp.{nat_list_cmp_total, eq_by_cmp_equiv}, lemmas.List.Sorted.{IsPermutation-to_front, IsPermutation-map, IsPermutation-sym}}
use Rattle.std.proofs.lemmas.Map.Keys.{IsDistinct-IsPermutation, IsDistinct-cons, IsDistinct-head, IsDistinct-tail}
use Rattle.std.specs.{List.{AllByRecursion, IsDistinct, list_any}, Map.{keys_of}, Ordering.{eq_by_cmp}, Result.{IsErr}}
use Rattle.t1_join.specs.{declared.listing.ListFault.{ListFault}, declared.listing.ListFault.TheVariants.{BadLine, Repeated}, Meaning.{Meaning, meaning_cmp, of_number}, TableMeaning.{TableMeaning}}
use Rattle.t1_join.specs.ListingMeaning.{ListingMeaning, IsListing}
use Rattle.t1_join.specs.ListingText.{ListedEntry, subr, glyph, split_at, listed_entry, listing_lines, same_key, read_entry, read_lines, entries_of, with_entry, listing_from, listing_of}
use Rattle.t1_join.specs.{ListingText.{listing_result}, LineMeaning.{IsEntry}, TableLaws.{same_table}, Unsorted.{Unsorted, with_line, KeysDiffer, AllKeysDiffer, AreTablesOf}}
use Rattle.t1_join.proofs.{EntryLemmas.{same_by_cmp}, SplitLemmas.{lines-split, first_line}, ReadLemmas.{ended, not_ended, shorter}, ListingLemmas.{none_listed, entry_listed, entry_fits}}
use Rattle.std.specs.FinMap as fin

-- what was read, the newest first, before its keys are compared
abbrev unsorted : List ListedEntry → Unsorted
unsorted [] = record { subrs = []; glyphs = [] }
unsorted (e ∷ es) = with_line e (unsorted es)

-- no entry has the key of an older one
abbrev Apart : List ListedEntry → Type 0
Apart [] = Unit {0}
Apart (e ∷ es) = (list_any (same_key e) es ≡ false) × Apart es

-- how far a text was read: were all keys apart, it would go on, and they are in a text without a fault
pub record IsGathering (text : List ℕ) (u : Unsorted) (rest : List ℕ) : Type 0 where
  pub seen : List ListedEntry
  pub line : ℕ
  pub read : u ≡ unsorted seen
  pub fit : AllByRecursion IsEntry seen
  pub goes_on : Apart seen → entries_of text ≡ read_lines line seen (listing_lines rest).0 (listing_lines rest).1
  pub no_fault : (es : List ListedEntry) → entries_of text ≡ Ok es → Apart seen

-- what has no entries has no listing
no_listing : (x : Result (List ListedEntry) ListFault) → ((es : List ListedEntry) → x ≡ Ok es → ⊥) → IsErr (listing_result x)
no_listing (Ok es) h = absurd (h es refl)
no_listing (Err e) h = refl

-- before the first line nothing is read
pub gathering_starts : (text : List ℕ) (u : Unsorted) → u ≡ record { subrs = []; glyphs = [] } → IsGathering text u text
gathering_starts text u e = record { seen = []; line = 1; read = e; fit = tt; goes_on = λ _. refl; no_fault = λ _ _. tt }

module _ (text : List ℕ) (u : Unsorted) (rest : List ℕ) (r : IsGathering text u rest) where
  module _ (front back : List ℕ) (split : split_at 10 rest ≡ Some (front, back)) where
    -- what stands after a line is shorter than what stood before it
    pub gathered_shorter : length back + 1 ≤ length rest
    gathered_shorter = shorter 10 rest (front, back) split

    -- where all keys are apart, what the text reads as depends on this line
    this_line : Apart r.seen →
        entries_of text ≡ read_entry r.line r.seen (listed_entry front) (λ more. read_lines (r.line + 1) more (listing_lines back).0 (listing_lines back).1)
    this_line apart = r.goes_on apart ∙ ap (λ p. read_lines r.line r.seen p.0 p.1) (lines-split rest ∙ ap (first_line rest) split)

    module _ (e : ListedEntry) (says : listed_entry front ≡ Some e) where
      said : (b : Bool) → list_any (same_key e) r.seen ≡ b → Apart r.seen →
          entries_of text ≡ cond b (Err (Repeated r.line)) (read_lines (r.line + 1) (e ∷ r.seen) (listing_lines back).0 (listing_lines back).1)
      said b h apart =
          this_line apart
          ∙ ap (λ x. read_entry r.line r.seen x (λ more. read_lines (r.line + 1) more (listing_lines back).0 (listing_lines back).1)) says
          ∙ ap (λ t. cond t (Err (Repeated r.line)) (read_lines (r.line + 1) (e ∷ r.seen) (listing_lines back).0 (listing_lines back).1)) h

      new_key : (es : List ListedEntry) → entries_of text ≡ Ok es → (b : Bool) → list_any (same_key e) r.seen ≡ b → list_any (same_key e) r.seen ≡ false
      new_key es good false h = h
      new_key es good true h = let bad = said true h (r.no_fault es good) in cc

      -- a line that says an entry adds it, whether its key was there or not
      pub gathered_next : (new : Unsorted) → new ≡ with_line e u → IsGathering text new back
      gathered_next new n = record {
        seen = e ∷ r.seen;
        line = r.line + 1;
        read = n ∙ ap (with_line e) r.read;
        fit = (entry_fits front e says, r.fit);
        goes_on = λ apart. said false apart.0 apart.1;
        no_fault = λ es good. (new_key es good (list_any (same_key e) r.seen) refl, r.no_fault es good);
      }

    -- a line that says no entry is a fault, if there is none before it
    pub gathered_bad : listed_entry front ≡ None → IsErr (listing_of text)
    gathered_bad none = no_listing (entries_of text) (λ es good.
        let bad : entries_of text ≡ Err (BadLine r.line) =
        this_line (r.no_fault es good) ∙ ap (λ x. read_entry r.line r.seen x
        (λ more. read_lines (r.line + 1) more (listing_lines back).0 (listing_lines back).1)) none in
        cc)

  -- so is a last line without a line feed
  pub gathered_cut : split_at 10 rest ≡ None → (length rest ≡ 0 → ⊥) → IsErr (listing_of text)
  gathered_cut whole more = no_listing (entries_of text) (λ es good.
      let bad : entries_of text ≡ Err (BadLine r.line) =
      r.goes_on (r.no_fault es good) ∙ ap (λ p. read_lines r.line r.seen p.0 p.1) (lines-split rest ∙ ap (first_line rest) whole)
      ∙ not_ended r.line r.seen rest more in
      cc)

abbrev test : Meaning → Meaning → Bool
test = eq_by_cmp meaning_cmp

-- where keys differ, the last one differs from those before it
to_front : (es : List (Meaning × Meaning)) (e : Meaning × Meaning) → KeysDiffer (es ++ e ∷ []) → KeysDiffer (e ∷ es)
to_front es e h = IsDistinct-IsPermutation test (eq_by_cmp_equiv nat_list_cmp_total).symm _ _
    (IsPermutation-map (λ x. x.0) (es ++ e ∷ []) (e ∷ es) (IsPermutation-to_front es e)) h

found_none : (k : Meaning) (es : List (Meaning × Meaning)) → AllByRecursion (λ y. test k y ≡ false) (keys_of es) → fin.find meaning_cmp k es ≡ None
found_none k [] h = refl
found_none k (e ∷ es) h = ap (λ b. cond b (Some e.1) (fin.find meaning_cmp k es)) h.0 ∙ found_none k es h.1

none_before : (es : List (Meaning × Meaning)) (e : Meaning × Meaning) → KeysDiffer (es ++ e ∷ []) → AllByRecursion (λ y. test e.0 y ≡ false) (keys_of es)
none_before es e h = IsDistinct-head test e.0 (keys_of es) (to_front es e h)

differ_before : (es : List (Meaning × Meaning)) (e : Meaning × Meaning) → KeysDiffer (es ++ e ∷ []) → KeysDiffer es
differ_before es e h = IsDistinct-tail test e.0 (keys_of es) (to_front es e h)

-- the last entry is put at its key
pushed : (es : List (Meaning × Meaning)) (e : Meaning × Meaning) → KeysDiffer (es ++ e ∷ []) →
    fin.from_entries {R = meaning_cmp} (es ++ e ∷ []) ≡ fin.insert (fin.from_entries es) e.0 e.1
pushed es e h = fin.from_entries_push nat_list_cmp_total same_by_cmp es e.0 e.1 (found_none e.0 es (none_before es e h))

any_last : (p : Meaning → Bool) (es : List (Meaning × Meaning)) (e : Meaning × Meaning) →
    list_any p (keys_of (es ++ e ∷ [])) ≡ (p e.0 || list_any p (keys_of es))
any_last p [] e = refl
any_last p (f ∷ es) e = ap (λ b. p f.0 || b) (any_last p es e) ∙ exchanged (p f.0) (p e.0) (list_any p (keys_of es))
  where
    exchanged : (a b c : Bool) → (a || (b || c)) ≡ (b || (a || c))
    exchanged true true c = refl
    exchanged true false c = refl
    exchanged false b c = refl

-- the keys of one kind are those that lines of it have
subr_seen : (i : ℕ) (v : Meaning) (es : List ListedEntry) → list_any (same_key (subr i v)) es ≡ list_any (test (of_number i)) (keys_of (unsorted es).subrs)
subr_seen i v [] = refl
subr_seen i v (subr j w ∷ es) =
    ap (λ b. test (of_number i) (of_number j) || b) (subr_seen i v es) ∙ sym (any_last (test (of_number i)) (unsorted es).subrs (of_number j, w))
subr_seen i v (glyph m w ∷ es) = subr_seen i v es

glyph_seen : (n v : Meaning) (es : List ListedEntry) → list_any (same_key (glyph n v)) es ≡ list_any (test n) (keys_of (unsorted es).glyphs)
glyph_seen n v [] = refl
glyph_seen n v (subr j w ∷ es) = glyph_seen n v es
glyph_seen n v (glyph m w ∷ es) = ap (λ b. test n m || b) (glyph_seen n v es) ∙ sym (any_last (test n) (unsorted es).glyphs (m, w))

none_any : (k : Meaning) (ks : List Meaning) → AllByRecursion (λ y. test k y ≡ false) ks → list_any (test k) ks ≡ false
none_any k [] h = refl
none_any k (x ∷ ks) h = ap (λ b. b || list_any (test k) ks) h.0 ∙ none_any k ks h.1

all_apart : (es : List ListedEntry) → KeysDiffer (unsorted es).subrs → KeysDiffer (unsorted es).glyphs → Apart es
all_apart [] s g = tt
all_apart (subr i v ∷ es) s g =
    let before = (unsorted es).subrs in (
      subr_seen i v es
          ∙ none_any (of_number i) (keys_of before) (none_before before (of_number i, v) s),
      all_apart es (differ_before before (of_number i, v) s) g,
    )
all_apart (glyph n v ∷ es) s g =
    let before = (unsorted es).glyphs in
    (glyph_seen n v es ∙ none_any n (keys_of before) (none_before before (n, v) g), all_apart es s (differ_before before (n, v) g))

both_false : (a b : Bool) → (a || b) ≡ false → (a ≡ false) × (b ≡ false)
both_false true b h = cc
both_false false b h = (refl, h)

none_from_any : (k : Meaning) (ks : List Meaning) → list_any (test k) ks ≡ false → AllByRecursion (λ y. test k y ≡ false) ks
none_from_any k [] h = tt
none_from_any k (x ∷ ks) h = let both = both_false (test k x) (list_any (test k) ks) h in (both.0, none_from_any k ks both.1)

-- a key that differs from those before it may come last
to_back : (es : List (Meaning × Meaning)) (e : Meaning × Meaning) → KeysDiffer es → list_any (test e.0) (keys_of es) ≡ false → KeysDiffer (es ++ e ∷ [])
to_back es e h new =
    IsDistinct-IsPermutation test (eq_by_cmp_equiv nat_list_cmp_total).symm _ _
    (IsPermutation-sym _ _ (IsPermutation-map (λ x. x.0) (es ++ e ∷ []) (e ∷ es) (IsPermutation-to_front es e)))
    (IsDistinct-cons test e.0 (keys_of es) (none_from_any e.0 (keys_of es) new) h)

-- keys that are apart differ, those of each kind
all_differ : (es : List ListedEntry) → Apart es → AllKeysDiffer (unsorted es)
unfolding IsDistinct
all_differ [] h = (tt, tt)
all_differ (subr i v ∷ es) h =
    let before = all_differ es h.1 in (to_back (unsorted es).subrs (of_number i, v) before.0 (sym (subr_seen i v es) ∙ h.0), before.1)
all_differ (glyph n v ∷ es) h =
    let before = all_differ es h.1 in (before.0, to_back (unsorted es).glyphs (n, v) before.1 (sym (glyph_seen n v es) ∙ h.0))

-- a text of which a key came twice has a fault
pub gathered_repeats : (text : List ℕ) (u : Unsorted) (rest : List ℕ) → IsGathering text u rest → ¬ AllKeysDiffer u → IsErr (listing_of text)
gathered_repeats text u rest r twice =
    no_listing (entries_of text) (λ es good. twice (subst AllKeysDiffer (sym r.read) (all_differ r.seen (r.no_fault es good))))

abbrev tables : TableMeaning → TableMeaning → ListingMeaning
tables m n = record { subrs = m; glyphs = n }

abbrev empty_table : TableMeaning
empty_table = fin.empty

no_entry : empty_table ≡ fin.from_entries {R = meaning_cmp} []
no_entry = same_table _ _ (λ q. fin.get-empty meaning_cmp q ∙ sym (fin.get-from_entries nat_list_cmp_total [] q))

-- the listing of entries whose keys differ has the tables of them
listing_is : (es : List ListedEntry) → KeysDiffer (unsorted es).subrs → KeysDiffer (unsorted es).glyphs →
    listing_from es ≡ tables (fin.from_entries (unsorted es).subrs) (fin.from_entries (unsorted es).glyphs)
listing_is [] s g = ap (λ m. tables m m) no_entry
listing_is (subr i v ∷ es) s g =
    let before = (unsorted es).subrs in
    ap (with_entry (subr i v)) (listing_is es (differ_before before (of_number i, v) s) g)
    ∙ ap (λ m. tables m (fin.from_entries (unsorted es).glyphs)) (sym (pushed before (of_number i, v) s))
listing_is (glyph n v ∷ es) s g =
    let before = (unsorted es).glyphs in
    ap (with_entry (glyph n v)) (listing_is es s (differ_before before (n, v) g))
    ∙ ap (tables (fin.from_entries (unsorted es).subrs)) (sym (pushed before (n, v) g))

all_listed : (es : List ListedEntry) → AllByRecursion IsEntry es → IsListing (listing_from es)
all_listed [] h = none_listed
all_listed (e ∷ es) h = entry_listed (listing_from es) e (all_listed es h.1) h.0

-- where the text ends with its last line and the tables of its entries were made, they are its listing
module _ (text : List ℕ) (u : Unsorted) (rest : List ℕ) (r : IsGathering text u rest) (t : TableMeaning × TableMeaning) (made : AreTablesOf u t) where
  subrs_differ : KeysDiffer (unsorted r.seen).subrs
  subrs_differ = subst (λ (x : Unsorted). KeysDiffer x.subrs) r.read made.0.differ

  glyphs_differ : KeysDiffer (unsorted r.seen).glyphs
  glyphs_differ = subst (λ (x : Unsorted). KeysDiffer x.glyphs) r.read made.1.differ

  made_is : listing_from r.seen ≡ tables t.0 t.1
  made_is =
      listing_is r.seen subrs_differ glyphs_differ
      ∙ ap (λ (x : Unsorted). tables (fin.from_entries x.subrs) (fin.from_entries x.glyphs)) (sym r.read)
      ∙ ap (tables (fin.from_entries u.subrs)) (sym made.1.table)
      ∙ ap (λ m. tables m t.1) (sym made.0.table)

  -- the tables of the entries are those of a listing
  pub gathered_listed : IsListing (tables t.0 t.1)
  gathered_listed = subst IsListing made_is (all_listed r.seen r.fit)

  -- if no key came twice, the text spells the listing of all lines
  pub gathering_ends : split_at 10 rest ≡ None → length rest ≡ 0 → listing_of text ≡ Ok (tables t.0 t.1)
  gathering_ends whole e =
      ap listing_result
      (r.goes_on (all_apart r.seen subrs_differ glyphs_differ)
      ∙ ap (λ p. read_lines r.line r.seen p.0 p.1) (lines-split rest ∙ ap (first_line rest) whole)
      ∙ ended r.line r.seen rest e)
      ∙ ap Ok made_is
