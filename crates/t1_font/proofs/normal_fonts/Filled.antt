-- Fonts that are filled one by one, by one table of stubs.
use Rattle.std.proofs.Common.{◌≡◌, ℕ, ◌+◌, ◌≤◌, ◌<◌, Bool, true, false, cond, ◌&&◌, ◌||◌, List, [], ◌∷◌, ◌++◌, map, length, drop, get_or, Option, Some, None, is_some, inl, inr, refl, sym, ap, subst}
use Rattle.std.proofs.{Common.{◌∙◌, arith, true≢false, BTreeSet}, lemmas.List.{append_assoc, append-nil, drop_more, drop_all}, lemmas.Bool.{cases_Bool, eqb-true}, lemmas.List.Folds.{list_any-append}}
use Rattle.std.specs.{Prelude.{nat_lt, max, ◌==◌}, List.{list_any}, Ordering.{nat_cmp, eq_by_cmp}, Option.{option_map}, Cmp.{nat_cmp_total, Equal-is}, BTreeSet.{contains}, BTreeMap.{is_at}}
use Rattle.std.specs.FinMap.{find, get, entries, keys, empty, get-empty, get-from_entries, contains_key, contains_key-keys, retain_keys, same_map, nat_cmp-IsAntisymmetric}
use Rattle.t1_font.specs.{declared.parts.PartsFault.{PartsFault}, declared.parts.PartsFault.TheVariants.{Limit, Memory}, FontValue.{FontValue, SparseArray, declared_count, weight, weight_limit}}
use Rattle.t1_font.specs.{Cut.{stub}, Maps.{map_values, merged}, Normalizing.{stubs_at, below_count, with_stubs, filled, filled_all, indices_of_all, largest_count}}
use Rattle.t1_font.specs.{Filling.{AreLight, AnyHeavy, Fills, FillRefuses, has_each, are_below, has_none, with_these, filled_by, FontRefused}, IsFont.{IsFont}}
use Rattle.t1_font.proofs.{MapLemmas.{joined, get-merged, get-map_values}, normal_fonts.Normalized.{stubs_below, filled_is_font}}

-- ---- the largest count

max_assoc : (a b c : ℕ) → max (max a b) c ≡ max a (max b c)
max_assoc a b c = omega arith

-- a larger count is the largest so far
pub bigger : (new n d : ℕ) → n < d → new ≡ d → new ≡ max n d
bigger new n d h e = omega (arith, h, e)

-- any other leaves the largest so far
pub no_bigger : (new n d : ℕ) → d ≤ n → new ≡ n → new ≡ max n d
no_bigger new n d h e = omega (arith, h, e)

-- behind the last font the largest count is that of all
pub count_done : (fs : List FontValue) (i n : ℕ) → length fs ≤ i → n ≡ max n (largest_count (drop i fs))
count_done fs i n h = max_zero n ∙ ap (λ (gs : List FontValue). max n (largest_count gs)) (sym (drop_all i fs h))
  where
    max_zero : (n : ℕ) → n ≡ max n 0
    max_zero n = omega arith

-- the largest count of one more font
pub count_step : (fs : List FontValue) (i : ℕ) (d : FontValue) (n : ℕ) → i < length fs →
    max n (largest_count (drop i fs)) ≡ max (max n (declared_count (get_or fs i d).shell.subrs)) (largest_count (drop (i + 1) fs))
count_step fs i d n h = ap (λ (gs : List FontValue). max n (largest_count gs)) (drop_more fs i d h)
    ∙ sym (max_assoc n (declared_count (get_or fs i d).shell.subrs) (largest_count (drop (i + 1) fs)))

-- ---- the indices of all

-- whether an index is one of these
abbrev pub is_one : ℕ → List ℕ → Bool
is_one q indices = list_any (eq_by_cmp nat_cmp q) indices

-- the indices of a map, and those of the fonts that are left, are all
abbrev pub IndicesSoFar : SparseArray → List FontValue → List FontValue → Type 0
IndicesSoFar m left all = (q : ℕ) → (contains_key m q || is_one q (indices_of_all left)) ≡ is_one q (indices_of_all all)

-- before the first font no index is met
pub none_so_far : (m : SparseArray) (all : List FontValue) → m ≡ empty → IndicesSoFar m all all
none_so_far m all e q = ap (λ (o : Option (List ℕ)). is_some o || is_one q (indices_of_all all)) (ap (λ (n : SparseArray). get n q) e ∙ get-empty nat_cmp q)

-- where both hold, each does
and_both : (a b : Bool) → (a && b) ≡ true → (a ≡ true) × (b ≡ true)
and_both true b h = (refl, h)
and_both false b h = absurd (true≢false (sym h))

or_false : (b : Bool) → (b || false) ≡ b
or_false true = refl
or_false false = refl

or_assoc : (a b c : Bool) → ((a || b) || c) ≡ (a || (b || c))
or_assoc true b c = refl
or_assoc false b c = refl

some_either : {X : Type 0} (x y : Option X) → is_some (joined x y) ≡ (is_some x || is_some y)
some_either None y = refl
some_either (Some v) y = refl

-- an index of some fonts is one of the first or of the others
pub indices_next : (q : ℕ) (f : FontValue) (fs : List FontValue) → is_one q (indices_of_all (f ∷ fs)) ≡ (contains_key f.subrs q || is_one q (indices_of_all fs))
indices_next q f fs =
    list_any-append (eq_by_cmp nat_cmp q) (keys f.subrs) (indices_of_all fs) ∙ ap (λ b. b || is_one q (indices_of_all fs)) (sym (contains_key-keys f.subrs q))

module _ (m : SparseArray) (all fs : List FontValue) (i : ℕ) (d f : FontValue)
    (room : i < length fs) (is : get_or fs i d ≡ f) (h : IndicesSoFar m (drop i fs) all) where
  next : drop i fs ≡ f ∷ drop (i + 1) fs
  next = drop_more fs i d room ∙ ap (λ (g : FontValue). g ∷ drop (i + 1) fs) is

  more : (q : ℕ) (b : Bool) → b ≡ (contains_key m q || contains_key f.subrs q) →
      (b || is_one q (indices_of_all (drop (i + 1) fs))) ≡ is_one q (indices_of_all all)
  more q b e =
      ap (λ b. b || is_one q (indices_of_all (drop (i + 1) fs))) e
      ∙ (or_assoc (contains_key m q) (contains_key f.subrs q) (is_one q (indices_of_all (drop (i + 1) fs)))
      ∙ (ap (λ b. contains_key m q || b) (sym (indices_next q f (drop (i + 1) fs)))
      ∙ (ap (λ (gs : List FontValue). contains_key m q || is_one q (indices_of_all gs)) (sym next) ∙ h q)))

  -- those of one more font
  pub one_more_font : (n : SparseArray) → n ≡ merged m f.subrs → IndicesSoFar n (drop (i + 1) fs) all
  one_more_font n put q = more q (contains_key n q) (ap (λ (k : SparseArray). contains_key k q) put
      ∙ (ap is_some (get-merged nat_cmp_total nat_cmp-IsAntisymmetric m f.subrs q) ∙ some_either (get m q) (get f.subrs q)))

  one_of_both : (a b : Bool) → (b ≡ true → a ≡ true) → a ≡ (a || b)
  one_of_both true b k = refl
  one_of_both false true k = k refl
  one_of_both false false k = refl

  -- a font whose indices are all known adds none
  pub no_more_font : ((q : ℕ) → contains_key f.subrs q ≡ true → contains_key m q ≡ true) → IndicesSoFar m (drop (i + 1) fs) all
  no_more_font known q = more q (contains_key m q) (one_of_both (contains_key m q) (contains_key f.subrs q) (known q))

-- ---- indices that are known

-- a table has each number of these entries if it has each of all
abbrev pub EachLeft : SparseArray → SparseArray → List (ℕ × List ℕ) → Type 0
EachLeft m n left = has_each m (map (λ e. e.0) left) ≡ has_each m (keys n)

-- before the first entry all are left
pub all_left : (m n : SparseArray) (left : List (ℕ × List ℕ)) → left ≡ entries n → EachLeft m n left
all_left m n left is = ap (λ (es : List (ℕ × List ℕ)). has_each m (map (λ e. e.0) es)) is

-- a number that the first table has is left no more
pub one_known : (m n : SparseArray) (e : ℕ × List ℕ) (left : List (ℕ × List ℕ)) → contains_key m e.0 ≡ true → EachLeft m n (e ∷ left) → EachLeft m n left
one_known m n e left t h = ap (λ b. b && has_each m (map (λ (e : ℕ × List ℕ). e.0) left)) (sym t) ∙ h

-- one that it lacks is one of all
pub one_unknown : (m n : SparseArray) (e : ℕ × List ℕ) (left : List (ℕ × List ℕ)) → contains_key m e.0 ≡ false → EachLeft m n (e ∷ left) →
    false ≡ has_each m (keys n)
one_unknown m n e left t h = ap (λ b. b && has_each m (map (λ (e : ℕ × List ℕ). e.0) left)) (sym t) ∙ h

-- when none is left, the first table has all
pub all_known : (m n : SparseArray) (left : List (ℕ × List ℕ)) → left ≡ [] → EachLeft m n left → true ≡ has_each m (keys n)
all_known m n left none h = ap (λ (es : List (ℕ × List ℕ)). has_each m (map (λ e. e.0) es)) (sym none) ∙ h

-- a table that has each of these numbers has one of them
has_one : (m : SparseArray) (numbers : List ℕ) → has_each m numbers ≡ true → (q : ℕ) → is_one q numbers ≡ true → contains_key m q ≡ true
has_one m [] h q t = absurd (true≢false (sym t))
has_one m (k ∷ ks) h q t = at (eq_by_cmp nat_cmp q k) refl t (has_one m ks both.1 q)
  where
    both : (contains_key m k ≡ true) × (has_each m ks ≡ true)
    both = and_both (contains_key m k) (has_each m ks) h

    at : (b : Bool) → eq_by_cmp nat_cmp q k ≡ b → (b || is_one q ks) ≡ true → (is_one q ks ≡ true → contains_key m q ≡ true) → contains_key m q ≡ true
    at false is w others = others w
    at true is w others = ap (contains_key m) (nat_cmp-IsAntisymmetric q k ((Equal-is (nat_cmp q k)).0 is)) ∙ both.0

-- a table that has each number of another has each that the other has
pub has_keys : (m n : SparseArray) → has_each m (keys n) ≡ true → (q : ℕ) → contains_key n q ≡ true → contains_key m q ≡ true
has_keys m n h q t = has_one m (keys n) h q (sym (contains_key-keys n q) ∙ t)

-- where all indices are below a count, those that are below it are all
pub all_below : (n : ℕ) (indices : List ℕ) → are_below n indices ≡ true → below_count n indices ≡ indices
all_below n [] h = refl
all_below n (i ∷ is) h =
    let both = and_both (nat_lt i n) (are_below n is) h in
    ap (λ b. cond b (i ∷ below_count n is) (below_count n is)) both.0 ∙ ap (λ (js : List ℕ). i ∷ js) (all_below n is both.1)

-- the stubs at some indices have a stub at each of them, and nothing else
pub find_stub : (q : ℕ) (indices : List ℕ) → find nat_cmp q (map (λ i. (i, stub)) indices) ≡ cond (is_one q indices) (Some stub) None
find_stub q [] = refl
find_stub q (j ∷ js) = elim (eq_by_cmp nat_cmp q j)
    as (λ b. cond b (Some stub) (find nat_cmp q (map (λ i. (i, stub)) js)) ≡ cond (b || is_one q js) (Some stub) None) [ true ↦ refl | false ↦ find_stub q js ]

stub_of : (o : Option (List ℕ)) → option_map (λ c. stub) o ≡ cond (is_some o) (Some stub) None
stub_of None = refl
stub_of (Some c) = refl

-- where none is kept, all are stubs
pub all_stubs : (s : BTreeSet ℕ) (m : SparseArray) → s.keys ≡ [] → map_values (λ i c. cond (contains nat_cmp s i) c stub) m ≡ map_values (λ i c. stub) m
all_stubs s m none = ap (λ (ks : List ℕ). map_values (λ i c. cond (list_any (is_at (nat_cmp i)) ks) c stub) m) none

-- a stub at each of them
pub stubs_of : (m n : SparseArray) (all : List FontValue) → IndicesSoFar m [] all → n ≡ map_values (λ i c. stub) m → n ≡ stubs_at (indices_of_all all)
stubs_of m n all h is = is ∙ same_map nat_cmp_total nat_cmp-IsAntisymmetric _ _ (λ q.
    get-map_values nat_cmp_total nat_cmp-IsAntisymmetric (λ i c. stub) m q
    ∙ (stub_of (get m q)
    ∙ (ap (λ b. cond b (Some stub) None) (sym (or_false (contains_key m q)) ∙ h q)
    ∙ (sym (find_stub q (indices_of_all all)) ∙ sym (get-from_entries nat_cmp_total (map (λ i. (i, stub)) (indices_of_all all)) q)))))

-- ---- one font, and all

these_are : (n : ℕ) (indices : List ℕ) (m : SparseArray) (es : List (ℕ × List ℕ)) →
    with_these (retain_keys (stubs_at indices) (λ i. nat_lt i n)) m es ≡ with_stubs (below_count n indices) m es
these_are n indices m [] = refl
these_are n indices m (e ∷ es) = ap (merged m) (sym (stubs_below n indices))

-- filling by the table of stubs is filling at the indices
pub filled_so : (stubs : SparseArray) (indices : List ℕ) (f : FontValue) → stubs ≡ stubs_at indices → filled_by stubs f ≡ filled indices f
filled_so stubs indices f is = ap (λ (s : SparseArray). filled_by s f) is ∙ (λ i.
    record { shell = f.shell; encoding = f.encoding; subrs = these_are (declared_count f.shell.subrs) indices f.subrs (entries f.subrs) i; glyphs = f.glyphs })

heavy_later : (xs : List FontValue) (y : FontValue) (ys : List FontValue) → weight_limit < weight y → AnyHeavy (xs ++ y ∷ ys)
heavy_later [] y ys h = inl h
heavy_later (x ∷ xs) y ys h = inr (heavy_later xs y ys h)

light_append : (xs : List FontValue) (y : FontValue) → AreLight xs → weight y ≤ weight_limit → AreLight (xs ++ y ∷ [])
light_append [] y h k = (k, tt)
light_append (x ∷ xs) y h k = (h.0, light_append xs y h.1 k)

-- fonts that are filled, of which some are out and some left
pub record Filling (fs out left : List FontValue) : Type 0 where
  pub all : out ++ map (filled (indices_of_all fs)) left ≡ filled_all fs
  pub light : AreLight out

-- before the first font none is out
pub none_filled : (fs out left : List FontValue) → out ≡ [] → left ≡ fs → Filling fs out left
none_filled fs out left none is = record {
  all = λ i. none i ++ map (filled (indices_of_all fs)) (is i);
  light = subst AreLight (sym none) tt;
}

-- behind the last all are filled
pub all_filled : (fs out left : List FontValue) → left ≡ [] → Filling fs out left → Fills fs out
all_filled fs out left none h = (sym (append-nil out) ∙ (ap (λ (l : List FontValue). out ++ map (filled (indices_of_all fs)) l) (sym none) ∙ h.all), h.light)

module _ (stubs : SparseArray) (fs out left next : List FontValue) (f : FontValue)
    (h : Filling fs out left) (is : left ≡ f ∷ next) (at : stubs ≡ stubs_at (indices_of_all fs)) where
  here : out ++ filled_by stubs f ∷ map (filled (indices_of_all fs)) next ≡ filled_all fs
  here =
      ap (λ (x : FontValue). out ++ x ∷ map (filled (indices_of_all fs)) next) (filled_so stubs (indices_of_all fs) f at)
      ∙ (ap (λ (l : List FontValue). out ++ map (filled (indices_of_all fs)) l) (sym is) ∙ h.all)

  -- one more light font is out
  pub fills_on : (more : List FontValue) (g : FontValue) → g ≡ filled_by stubs f → weight g ≤ weight_limit → more ≡ out ++ g ∷ [] → Filling fs more next
  fills_on more g same light put = record {
    all = ap (λ (l : List FontValue). l ++ map (filled (indices_of_all fs)) next) put ∙ (append_assoc out (g ∷ []) (map (filled (indices_of_all fs)) next)
        ∙ (ap (λ (x : FontValue). out ++ x ∷ map (filled (indices_of_all fs)) next) same ∙ here));
    light = subst AreLight (sym put) (light_append out g h.light light);
  }

  -- the refusal of a font is the refusal of the list
  pub refused_there : (e : PartsFault) → FontRefused (filled_by stubs f) e → FillRefuses fs e
  refused_there Limit heavy = subst AnyHeavy here (heavy_later out (filled_by stubs f) (map (filled (indices_of_all fs)) next) heavy)
  refused_there Memory heavy = tt

-- ---- the parts of one

pub none_counted : (es : List (ℕ × List ℕ)) → (length es == 0) ≡ has_none es
none_counted [] = refl
none_counted (e ∷ es) = elim (cases_Bool (length (e ∷ es) == 0)) [ inl t ↦ absurd (omega (arith, eqb-true (length (e ∷ es)) 0 t)) | inr t ↦ t ]

-- a font without Subrs stays
pub unfilled : (stubs : SparseArray) (f : FontValue) → has_none (entries f.subrs) ≡ true → f ≡ filled_by stubs f
unfilled stubs f h = λ i. record { shell = f.shell; encoding = f.encoding; subrs = stays (entries f.subrs) h i; glyphs = f.glyphs }
  where
    stays : (es : List (ℕ × List ℕ)) → has_none es ≡ true → f.subrs ≡ with_these (retain_keys stubs (λ i. nat_lt i (declared_count f.shell.subrs))) f.subrs es
    stays [] h = refl
    stays (e ∷ es) h = absurd (true≢false (sym h))

-- one with Subrs has these, and the stubs
pub newly_filled : (stubs : SparseArray) (f : FontValue) (subrs : SparseArray) → has_none (entries f.subrs) ≡ false →
    subrs ≡ merged f.subrs (retain_keys stubs (λ i. nat_lt i (declared_count f.shell.subrs)))
    → ◌≡◌ {A = FontValue} (record { shell = f.shell; encoding = f.encoding; subrs = subrs; glyphs = f.glyphs }) (filled_by stubs f)
newly_filled stubs f subrs h put = λ i. record { shell = f.shell; encoding = f.encoding; subrs = (put ∙ more (entries f.subrs) h) i; glyphs = f.glyphs }
  where
    more : (es : List (ℕ × List ℕ)) → has_none es ≡ false → merged f.subrs (retain_keys stubs (λ i. nat_lt i (declared_count f.shell.subrs)))
        ≡ with_these (retain_keys stubs (λ i. nat_lt i (declared_count f.shell.subrs))) f.subrs es
    more [] h = absurd (true≢false h)
    more (e ∷ es) h = refl

-- the same of parts of a font
pub parts_filled : (stubs : SparseArray) (f p : FontValue) (n : ℕ) (subrs : SparseArray) → p ≡ f → has_none (entries p.subrs) ≡ false →
    n ≡ declared_count p.shell.subrs → subrs ≡ merged p.subrs (retain_keys stubs (λ i. nat_lt i n))
    → ◌≡◌ {A = FontValue} (record { shell = p.shell; encoding = p.encoding; subrs = subrs; glyphs = p.glyphs }) (filled_by stubs f)
parts_filled stubs f p n subrs is some declared put =
    newly_filled stubs p subrs some (put ∙ ap (λ (k : ℕ). merged p.subrs (retain_keys stubs (λ i. nat_lt i k))) declared) ∙ ap (filled_by stubs) is

-- a font filled with stubs is a font if it is within the weight limit
pub filled_by_is_font : (indices : List ℕ) (f : FontValue) → IsFont f → weight (filled_by (stubs_at indices) f) ≤ weight_limit →
    IsFont (filled_by (stubs_at indices) f)
filled_by_is_font indices f h light =
    let is = filled_so (stubs_at indices) indices f refl in
    subst IsFont (sym is) (filled_is_font indices f h (subst (λ (g : FontValue). weight g ≤ weight_limit) is light))

-- ---- indices in a list

module _ (js : List ℕ) where
  in_list : (q : ℕ) → get (stubs_at js) q ≡ cond (is_one q js) (Some stub) None
  in_list q = get-from_entries nat_cmp_total (map (λ i. (i, stub)) js) q ∙ find_stub q js

  there_or_not : (o : Option (List ℕ)) (b : Bool) → o ≡ cond b (Some stub) None → cond (is_some o) (Some stub) None ≡ o
  there_or_not o true e = rw e refl
  there_or_not o false e = rw e refl

  -- the stubs at the indices of stubs are the same
  pub stubs_listed : stubs_at (keys (stubs_at js)) ≡ stubs_at js
  stubs_listed = same_map nat_cmp_total nat_cmp-IsAntisymmetric _ _ (λ q.
      get-from_entries nat_cmp_total (map (λ i. (i, stub)) (keys (stubs_at js))) q
      ∙ (find_stub q (keys (stubs_at js))
      ∙ (ap (λ b. cond b (Some stub) None) (sym (contains_key-keys (stubs_at js) q))
      ∙ there_or_not (get (stubs_at js) q) (is_one q js) (in_list q))))
