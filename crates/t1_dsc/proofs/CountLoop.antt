-- The loops that go over documents.
use Rattle.std.proofs.{Common.{◌≡◌, ◌≤◌, ◌<◌, ◌+◌, ℕ, List, [], ◌∷◌, ◌++◌, length, get_or, drop, map, sym, ap, ◌∙◌, arith, append_assoc}, lemmas.List.{append-nil, drop_more, drop_all}}
use Rattle.t1_dsc.specs.Joining.{page_count, pages_told, total, document_bytes, documents_bytes}

module _ {X : Type 0} (view : X → List ℕ) (ds : List X) where
  -- so many documents were counted
  pub record Counted (i n : ℕ) (told : List ℕ) : Type 0 where
    pub sum : n + total (map view (drop i ds)) ≡ total (map view ds)
    pub each : told ++ map pages_told (map view (drop i ds)) ≡ map pages_told (map view ds)

  pub counted_first : (told : List ℕ) → told ≡ [] → Counted 0 0 told
  counted_first told e = record { sum = omega arith; each = ap (λ (ts : List ℕ). ts ++ map pages_told (map view ds)) e }

  pub counted_more : (i : ℕ) (d : X) → i < length ds → (n m : ℕ) (told more : List ℕ) → m ≡ n + page_count (view (get_or ds i d)) →
      more ≡ told ++ pages_told (view (get_or ds i d)) ∷ [] → Counted i n told → Counted (i + 1) m more
  counted_more i d h n m told more e k was = record {
    sum = omega (arith, e, one, was.sum);
    each = rw k (append_assoc told (pages_told (view (get_or ds i d)) ∷ []) (map pages_told (map view (drop (i + 1) ds)))
        ∙ (ap (λ ys. told ++ map pages_told (map view ys)) (sym (drop_more ds i d h)) ∙ was.each));
  }
    where
      one : total (map view (drop i ds)) ≡ page_count (view (get_or ds i d)) + total (map view (drop (i + 1) ds))
      one = ap (λ ys. total (map view ys)) (drop_more ds i d h)

  pub counted_total : (i : ℕ) → length ds ≤ i → (n : ℕ) (told : List ℕ) → Counted i n told → n ≡ total (map view ds)
  counted_total i le n told was =
      let none : total (map view (drop i ds)) ≡ 0 = ap (λ ys. total (map view ys)) (drop_all i ds le) in
      omega (arith, none, was.sum)

  pub counted_each : (i : ℕ) → length ds ≤ i → (n : ℕ) (told : List ℕ) → Counted i n told → told ≡ map pages_told (map view ds)
  counted_each i le n told was =
      sym (append-nil told) ∙ (ap (λ ys. told ++ map pages_told (map view ys)) (sym (drop_all i ds le)) ∙ was.each)

  -- so many documents were written
  pub documents_more : (start : List ℕ) (i : ℕ) (d : X) → i < length ds → (n m : ℕ) (out more all : List ℕ) → m ≡ n + page_count (view (get_or ds i d)) →
      more ≡ out ++ document_bytes start n (view (get_or ds i d)) → out ++ documents_bytes start n (map view (drop i ds)) ≡ all →
      more ++ documents_bytes start m (map view (drop (i + 1) ds)) ≡ all
  documents_more start i d h n m out more all e k was =
      rw (e, k) (append_assoc out (document_bytes start n (view (get_or ds i d)))
      (documents_bytes start (n + page_count (view (get_or ds i d))) (map view (drop (i + 1) ds)))
      ∙ (ap (λ ys. out ++ documents_bytes start n (map view ys)) (sym (drop_more ds i d h)) ∙ was))

  pub documents_all : (start : List ℕ) (i : ℕ) → length ds ≤ i → (n : ℕ) (out all : List ℕ) → out ++ documents_bytes start n (map view (drop i ds)) ≡ all →
      out ≡ all
  documents_all start i le n out all was = sym (append-nil out) ∙ (ap (λ ys. out ++ documents_bytes start n (map view ys)) (sym (drop_all i ds le)) ∙ was)
