-- The reading of a listing, line by line.
use Rattle.std.proofs.Common.{◌≡◌, ◌≤◌, ◌+◌, ℕ, suc, refl, sym, ◌∙◌, ap, subst, List, [], ◌∷◌, length, cond, Bool, true, false, Option, None, Some, Ok, Err, ◌==◌, ◌||◌, arith, is_some}
use Rattle.std.proofs.lemmas.Cmp.{nat_list_cmp_total}
use Rattle.std.specs.{Option.{option_map}, List.{list_any}, Ordering.{eq_by_cmp}}
use Rattle.t1_join.specs.{ListingMeaning.{ListingMeaning}, declared.listing.ListFault.TheVariants.{BadLine, Repeated}, Meaning.{Meaning, meaning_cmp, of_number}, TableMeaning.{TableMeaning}}
use Rattle.t1_join.specs.ListingText.{ListedEntry, subr, glyph, split_at, with_digit, listed_entry, listing_lines, same_key, read_entry, at_end, read_lines, entries_of, with_entry, listing_from}
use Rattle.t1_join.specs.{ListingText.{listing_of, listing_result}, LineMeaning.{has_entry}}
use Rattle.t1_join.proofs.SplitLemmas.{lines-split, first_line}
use Rattle.std.specs.FinMap as fin

some_or : (b : Bool) (v : Meaning) (x : Option Meaning) → is_some (cond b (Some v) x) ≡ (b || is_some x)
some_or true v x = refl
some_or false v x = refl

has_inserted : (m : TableMeaning) (k v q : Meaning) → fin.contains_key (fin.insert m k v) q ≡ (eq_by_cmp meaning_cmp q k || fin.contains_key m q)
has_inserted m k v q = ap is_some (fin.get-insert nat_list_cmp_total m k v q) ∙ some_or (eq_by_cmp meaning_cmp q k) v (fin.get m q)

-- a listing has the keys of its entries
pub has_seen : (e : ListedEntry) (seen : List ListedEntry) → has_entry (listing_from seen) e ≡ list_any (same_key e) seen
has_seen (subr i v) [] = ap is_some (fin.get-empty meaning_cmp (of_number i))
has_seen (glyph n v) [] = ap is_some (fin.get-empty meaning_cmp n)
has_seen (subr i v) (subr j w ∷ es) =
    has_inserted _ (of_number j) w (of_number i) ∙ ap (λ b. eq_by_cmp meaning_cmp (of_number i) (of_number j) || b) (has_seen (subr i v) es)
has_seen (subr i v) (glyph m w ∷ es) = has_seen (subr i v) es
has_seen (glyph n v) (subr j w ∷ es) = has_seen (glyph n v) es
has_seen (glyph n v) (glyph m w ∷ es) = has_inserted _ m w n ∙ ap (λ b. eq_by_cmp meaning_cmp n m || b) (has_seen (glyph n v) es)

-- how far a text was read: the listing so far, the number of the next line, and what is left
pub record IsReading (text : List ℕ) (l : ListingMeaning) (line : ℕ) (rest : List ℕ) : Type 0 where
  pub seen : List ListedEntry
  pub listing : l ≡ listing_from seen
  pub goes_on : entries_of text ≡ read_lines line seen (listing_lines rest).0 (listing_lines rest).1
  pub counted : line + length rest ≤ length text + 1

-- what the parts of a split are
pub shorter : (c : ℕ) (xs : List ℕ) (p : List ℕ × List ℕ) → split_at c xs ≡ Some p → length p.1 + 1 ≤ length xs
shorter c [] p h = cc
shorter c (b ∷ bs) p h = by (b == c) (split_at c bs) (shorter c bs) h
  where
    at_head : Some ([], bs) ≡ Some p → length p.1 + 1 ≤ suc (length bs)
    at_head h =
        let e : ◌≡◌ {A = List ℕ × List ℕ} ([], bs) p = cc in
        subst (λ (w : List ℕ × List ℕ). length w.1 + 1 ≤ suc (length bs)) e (omega arith)

    by : (t : Bool) (s : Option (List ℕ × List ℕ)) → ((q : List ℕ × List ℕ) → s ≡ Some q → length q.1 + 1 ≤ length bs) →
        cond t (Some ([], bs)) (option_map (with_digit b) s) ≡ Some p → length p.1 + 1 ≤ length (b ∷ bs)
    by true s ih h = at_head h
    by false None ih h = cc
    by false (Some q) ih h =
        let k : length q.1 + 1 ≤ length bs = ih q refl in
        let e : with_digit b q ≡ p = cc in
        subst (λ (w : List ℕ × List ℕ). length w.1 + 1 ≤ suc (length bs)) e (omega arith)

-- where nothing is left, reading ends well
pub ended : (n : ℕ) (seen : List ListedEntry) (rest : List ℕ) → length rest ≡ 0 → at_end n seen rest ≡ Ok seen
ended n seen [] e = refl
ended n seen (b ∷ rest) e = absurd (omega arith)

-- where something is left, it is a bad line
pub not_ended : (n : ℕ) (seen : List ListedEntry) (rest : List ℕ) → (length rest ≡ 0 → ⊥) → at_end n seen rest ≡ Err (BadLine n)
not_ended n seen [] e = absurd (e refl)
not_ended n seen (b ∷ rest) e = refl

module _ (text : List ℕ) (l : ListingMeaning) (line : ℕ) (rest : List ℕ) (r : IsReading text l line rest) where
  module _ (front back : List ℕ) (split : split_at 10 rest ≡ Some (front, back)) where
    -- what stands after a line is shorter than what stood before it
    pub back_shorter : length back + 1 ≤ length rest
    back_shorter = shorter 10 rest (front, back) split

    lines_are : listing_lines rest ≡ (front ∷ (listing_lines back).0, (listing_lines back).1)
    lines_are = lines-split rest ∙ ap (first_line rest) split

    next_line : entries_of text ≡ read_entry line r.seen (listed_entry front) (λ more. read_lines (line + 1) more (listing_lines back).0 (listing_lines back).1)
    next_line = r.goes_on ∙ ap (λ p. read_lines line r.seen p.0 p.1) lines_are

    -- a line that says no entry is a bad line
    pub bad_line : listed_entry front ≡ None → listing_of text ≡ Err (BadLine line)
    bad_line h = ap listing_result (next_line ∙ ap (λ e. read_entry line r.seen e
        (λ more. read_lines (line + 1) more (listing_lines back).0 (listing_lines back).1)) h)

    known : (e : ListedEntry) → has_entry l e ≡ list_any (same_key e) r.seen
    known e = ap (λ k. has_entry k e) r.listing ∙ has_seen e r.seen

    with_line : (e : ListedEntry) (b : Bool) → listed_entry front ≡ Some e → has_entry l e ≡ b →
        entries_of text ≡ cond b (Err (Repeated line)) (read_lines (line + 1) (e ∷ r.seen) (listing_lines back).0 (listing_lines back).1)
    with_line e b h k =
        next_line
        ∙ ap (λ x. read_entry line r.seen x (λ more. read_lines (line + 1) more (listing_lines back).0 (listing_lines back).1)) h
        ∙ ap (λ t. cond t (Err (Repeated line)) (read_lines (line + 1) (e ∷ r.seen) (listing_lines back).0 (listing_lines back).1)) (sym (known e) ∙ k)

    -- a line whose key is there is a repeated one
    pub repeated : (e : ListedEntry) → listed_entry front ≡ Some e → has_entry l e ≡ true → listing_of text ≡ Err (Repeated line)
    repeated e h k = ap listing_result (with_line e true h k)

    -- a line with a new key adds its entry, and reading goes on
    pub next : (e : ListedEntry) (new : ListingMeaning) → listed_entry front ≡ Some e → has_entry l e ≡ false → new ≡ with_entry e l →
        IsReading text new (line + 1) back
    next e new h k n = record {
      seen = e ∷ r.seen;
      listing = n ∙ ap (with_entry e) r.listing;
      goes_on = with_line e false h k;
      counted = omega (arith, back_shorter, r.counted);
    }

  module _ (whole : split_at 10 rest ≡ None) where
    last : entries_of text ≡ at_end line r.seen rest
    last = r.goes_on ∙ ap (λ p. read_lines line r.seen p.0 p.1) (lines-split rest ∙ ap (first_line rest) whole)

    -- a last line without a line feed is a bad line
    pub no_line_feed : (length rest ≡ 0 → ⊥) → listing_of text ≡ Err (BadLine line)
    no_line_feed e = ap listing_result (last ∙ not_ended line r.seen rest e)
