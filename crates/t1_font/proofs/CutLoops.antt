-- Maps that are built entry by entry: what is put so far, and what is left.
use Rattle.std.proofs.{Common.{◌≡◌, ℕ, Ordering, Bool, true, false, cond, List, [], ◌∷◌, ◌++◌, Option, Some, None, is_some, inl, inr, refl, sym, ap, ◌∙◌}, lemmas.List.{append_assoc, append-nil}}
use Rattle.std.specs.{List.{list_any}, Ordering.{is_eq, eq_by_cmp}, Cmp.{IsTotalOrder, Equal-is}, Cmp.Lexicographic.{nat_list_cmp_total}, FinSet.{IsAntisymmetric}}
use Rattle.std.specs.FinMap.{FinMap, get, empty, contains_key, same_map, retain_keys}
use Rattle.t1_grammar.specs.Grammar.{choice}
use Rattle.t1_font.specs.{FontValue.{FontValue}, Cut.{stub, restrict_encoding, restrict}, Maps.{put_all_into, entry_of, map_values}}
use Rattle.t1_text.specs.Entries.{map_of, last_value}
use Rattle.t1_font.proofs.{MapLemmas.{is_or_not, get-retain}, canonical.FontAgain.{name_same}}
use Rattle.t1_text.proofs.MapLaws.{map_of-append, map_of-nil, get-map_of}
use Rattle.std.specs.FinSet as sets

-- the entries of these keys in a map
abbrev pub entries_of : {K : Type 0} {R : K → K → Ordering} → FinMap R (List ℕ) → List K → List (K × List ℕ)
entries_of m [] = []
entries_of m (k ∷ ks) = entry_of k (get m k) ++ entries_of m ks

module _ {K : Type 0} {R : K → K → Ordering} (o : IsTotalOrder R) (same : IsAntisymmetric R) where
  -- entries put into the map of others make the map of all
  pub put_more : (ds es : List (K × List ℕ)) → put_all_into {R = R} (map_of ds) es ≡ map_of (ds ++ es)
  put_more ds [] = ap map_of (sym (append-nil ds))
  put_more ds (e ∷ es) = ap (λ m. put_all_into m es) (sym (map_of-append o same ds e)) ∙ (put_more (ds ++ e ∷ []) es ∙ ap map_of (append_assoc ds (e ∷ []) es))

  pub put_first : (es : List (K × List ℕ)) → put_all_into {R = R} empty es ≡ map_of es
  put_first es = ap (λ m. put_all_into m es) (sym (map_of-nil o same)) ∙ put_more [] es

  -- ---- the entries of some keys

  choice_none : (x : Option (List ℕ)) → choice x None ≡ x
  choice_none None = refl
  choice_none (Some v) = refl

  one_more : (q k : K) (es : List (K × List ℕ)) (v : Option (List ℕ)) →
      last_value R q (entry_of k v ++ es) ≡ choice (last_value R q es) (cond (is_eq (R q k)) v None)
  one_more q k es None = sym (choice_none (last_value R q es)) ∙ by_key (is_eq (R q k))
    where
      by_key : (b : Bool) → choice (last_value R q es) None ≡ choice (last_value R q es) (cond b None None)
      by_key true = refl
      by_key false = refl
  one_more q k es (Some c) = refl

  both_ways : (g : Option (List ℕ)) (l : Bool) → choice (cond l g None) g ≡ g
  both_ways None true = refl
  both_ways None false = refl
  both_ways (Some c) true = refl
  both_ways (Some c) false = refl

  found_in : (m : FinMap R (List ℕ)) (q : K) (ks : List K) → last_value R q (entries_of m ks) ≡ cond (list_any (eq_by_cmp R q) ks) (get m q) None
  found_in m q [] = refl
  found_in m q (k ∷ ks) =
      one_more q k (entries_of m ks) (get m k)
      ∙ (ap (λ x. choice x (cond (is_eq (R q k)) (get m k) None)) (found_in m q ks) ∙ elim (is_or_not (is_eq (R q k))) [
        | inl e ↦ rw e (ap (λ x. choice (cond (list_any (eq_by_cmp R q) ks) (get m q) None) (get m x)) (sym (same q k ((Equal-is (R q k)).0 e)))
            ∙ both_ways (get m q) (list_any (eq_by_cmp R q) ks))
        | inr e ↦ rw e (choice_none (cond (list_any (eq_by_cmp R q) ks) (get m q) None))
      ])

  pub put_some : (m : FinMap R (List ℕ)) (ks : List K) →
      put_all_into {R = R} empty (entries_of m ks) ≡ retain_keys m (sets.contains (sets.from_list {R = R} ks))
  put_some m ks = put_first (entries_of m ks) ∙ same_map o same _ _ (λ q.
      get-map_of o same (entries_of m ks) q ∙ (found_in m q ks
      ∙ (ap (λ b. cond b (get m q) None) (sym (sets.contains-from_list o ks q)) ∙ sym (get-retain o same m (sets.contains (sets.from_list {R = R} ks)) q))))

  -- a map cut to keys that it has, has these
  pub has_cut : (m : FinMap R (List ℕ)) (p : K → Bool) → ((k : K) → p k ≡ true → contains_key m k ≡ true) → (q : K) → contains_key (retain_keys m p) q ≡ p q
  has_cut m p known q = ap is_some (get-retain o same m p q) ∙ by_test (p q) (known q)
    where
      by_test : (b : Bool) → (b ≡ true → is_some (get m q) ≡ true) → is_some (cond b (get m q) None) ≡ b
      by_test true h = h refl
      by_test false h = refl

-- ---- a font that is cut

-- the parts of a font, each cut, where the Encoding is cut to the glyphs that are left
pub cut_font : (names : List ℕ → Bool) (subrs : ℕ → Bool) (f parts cut : FontValue) → f ≡ parts
    → ((n : List ℕ) → names n ≡ true → contains_key f.glyphs n ≡ true)
    → cut.shell ≡ parts.shell
    → cut.encoding ≡ restrict_encoding (contains_key cut.glyphs) parts.encoding
    → cut.subrs ≡ map_values (λ i c. cond (subrs i) c stub) parts.subrs
    → cut.glyphs ≡ retain_keys parts.glyphs names
    → cut ≡ restrict names subrs f
cut_font names subrs f parts cut is known shell encoding bodies glyphs =
    let has : (n : List ℕ) → contains_key cut.glyphs n ≡ names n = λ n. ap (λ m. contains_key m n) glyphs
    ∙ has_cut nat_list_cmp_total name_same parts.glyphs names (λ k t. ap (λ p. contains_key p.glyphs k) (sym is) ∙ known k t) n in
    let names_cut : cut.encoding ≡ restrict_encoding names parts.encoding = encoding ∙ (λ i. restrict_encoding (λ n. has n i) parts.encoding) in
    (λ i. record { shell = shell i; encoding = names_cut i; subrs = bodies i; glyphs = glyphs i }) ∙ ap (restrict names subrs) (sym is)
