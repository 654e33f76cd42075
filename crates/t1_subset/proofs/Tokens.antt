-- The tokens that glyphs execute, and what is taken for them out of budgets.
use Rattle.std.proofs.Common.{◌≡◌, refl, sym, ap, subst, ◌∙◌, ℕ, ◌+◌, ◌<◌, ◌≤◌, Bool, true, false, ◌||◌, ◌&&◌, cond}
use Rattle.std.proofs.{Common.{List, [], ◌∷◌, ◌++◌, map, take, drop, filter, length, get_or, Option, Some, None, unwrap_or, arith}}
use Rattle.std.proofs.Common.{true≢false, option_map, take_all, Ordering}
use Rattle.std.proofs.{lemmas.List.{take_more, take-append-drop, map-append}, lemmas.List.Sums.{sum_by-cons, sum_by-append, sum_by_push, sum_by-take-le}}
use Rattle.std.proofs.{lemmas.Map.Made.{sum_by-remove_key}, lemmas.Map.Keys.{IsDistinct-from_sorted}}
use Rattle.std.proofs.lemmas.Map.Keys.{IsDistinct-head, IsDistinct-tail, IsDistinct-cons}
use Rattle.std.specs.{List.{AllByRecursion, IsDistinct, list_any, find, sum_by}, List.Sorted.{IsStrictlySortedBy}, Cmp.{IsEquivalence, eq_by_cmp_equiv}, Set.{remove_key}}
use Rattle.std.specs.Cmp.Lexicographic.{nat_list_cmp_total}
use Rattle.std.specs.{declared.cmp.Ordering.TheVariants.{Less, Equal, Greater}, Ordering.{is_lt}, FinMap.Entries.{below_all, is_sorted}, Prelude.{T}}
use Rattle.t1_run.specs.{Budgets.{tokens_of, HasFewer, Spends}, Run.{Subrs}}
use Rattle.t1_run.proofs.Taken.{spends_nothing, spends_then, fewer_then}
use Rattle.t1_font.{specs.{FontValue.{FontValue, CharStrings, name_cmp, names_in}, FontModel.{subr_at}, IsFont.{IsFont}}, proofs.FontReaders.{all_seen}}
use Rattle.t1_algebra.{specs.{Interpreter.{same_bytes, Names}, Keep.{charstring, keep}, Profile.{profile}}, proofs.{Sets.{in_list, tied, name_same, any_filter, any_filtered}, Kept.{keep_from}}}
use Rattle.t1_subset.specs.{Budgets.{glyph_tokens, tokens_from, font_tokens, fonts_tokens, kept_names, kept_tokens, IsEnough}}
use Rattle.t1_subset.specs.{References.{same_charstring}}
use Rattle.t1_subset.{proofs.closing.Closures.{ClosureSoFar, closure_end, all_front}}
use Rattle.t1_subset.specs.ClosureNames.{push_all}
use Rattle.std.specs.FinMap as maps
use Rattle.std.specs.FinSet as sets

-- ---- budgets

-- as many tokens, by another number
pub spends_as : (a b : ℕ) (old new : Option ℕ) → a ≡ b → Spends a old new → Spends b old new
spends_as a b old new is h = subst (λ n. Spends n old new) is h

-- too little for some is too little for more
pub fewer_than_more : (tokens more : ℕ) (left : Option ℕ) → tokens ≤ more → HasFewer left tokens → HasFewer left more
fewer_than_more tokens more None above h = h
fewer_than_more tokens more (Some left) above h = omega (arith, above, h)

-- what is taken out of a budget is allowed by it
pub spends_enough : (tokens : ℕ) (old new : Option ℕ) → Spends tokens old new → IsEnough old tokens
spends_enough tokens None new h = tt
spends_enough tokens (Some old) None h = absurd h
spends_enough tokens (Some old) (Some new) h = omega (arith, h)

-- no token is always allowed
pub none_enough : (left : Option ℕ) → IsEnough left 0
none_enough None = tt
none_enough (Some left) = omega arith

-- what is allowed after some tokens is allowed with them
pub enough_then : (a b : ℕ) (old mid : Option ℕ) → Spends a old mid → IsEnough mid b → IsEnough old (a + b)
enough_then a b None mid h k = tt
enough_then a b (Some old) None h k = absurd h
enough_then a b (Some old) (Some mid) h k = omega (arith, h, k)

-- ---- one glyph

module _ (f : FontValue) (w : IsFont f) (n c : List ℕ) (e : maps.get f.glyphs n ≡ Some c) where
  -- what is said of a charstring over the Subrs that code sees is so of the glyph
  of_glyph : (P : Subrs → List ℕ → Type 0) → P (subr_at f) c → P (maps.get f.subrs) (charstring f n)
  of_glyph P h =
      subst (λ s. P s (charstring f n)) (all_seen f w) (subst (λ x. P (subr_at f) x) (ap (λ (x : Option (List ℕ)). unwrap_or x []) (sym e)) h)

  -- what its runs take is what the glyph does
  pub glyph_takes : (old new : Option ℕ) → Spends (tokens_of (subr_at f) c) old new → Spends (glyph_tokens f n) old new
  unfolding glyph_tokens
  glyph_takes old new h = of_glyph (λ s x. Spends (tokens_of s x) old new) h

  -- if too little is left for its runs, it is for the glyph
  pub glyph_refused : (left : Option ℕ) → HasFewer left (tokens_of (subr_at f) c) → HasFewer left (glyph_tokens f n)
  unfolding glyph_tokens
  glyph_refused left h = of_glyph (λ s x. HasFewer left (tokens_of s x)) h

-- a name without a glyph takes nothing
pub no_glyph : (f : FontValue) (n : List ℕ) → maps.get f.glyphs n ≡ None → (left : Option ℕ) → Spends (glyph_tokens f n) left left
unfolding glyph_tokens
no_glyph f n e left =
    let s : Subrs = maps.get f.subrs in
    subst (λ (x : Option (List ℕ)). Spends (tokens_of s (unwrap_or x [])) left left) (sym e) (spends_nothing left)

-- ---- some, one after another

module _ {X : Type 0} (g : X → ℕ) where
  -- what was taken for some, and then for one more
  pub takes_more : (done next : List X) (x : X) (old mid new : Option ℕ) → next ≡ done ++ x ∷ [] →
      Spends (sum_by g done) old mid → Spends (g x) mid new → Spends (sum_by g next) old new
  takes_more done next x old mid new is h k =
      spends_as (sum_by g done + g x) (sum_by g next) old new (sym (ap (sum_by g) is ∙ sum_by_push g done x))
      (spends_then (sum_by g done) (g x) old mid new h k)

  -- if too little is left for one more, what there was is too little for all
  pub refused_on : (done next : List X) (x : X) (all : ℕ) (old mid : Option ℕ) → next ≡ done ++ x ∷ [] → sum_by g next ≤ all →
      Spends (sum_by g done) old mid → HasFewer mid (g x) → HasFewer old all
  refused_on done next x all old mid is few h k =
      let most : sum_by g next ≡ sum_by g done + g x = ap (sum_by g) is ∙ sum_by_push g done x in
      fewer_than_more (sum_by g done + g x) all old (omega (arith, most, few)) (fewer_then (sum_by g done) (g x) old mid h k)

-- ---- the glyphs of a font, of which one with the charstring of the one before takes nothing

module _ (f : FontValue) where
  -- What was taken so far, where these glyphs are left, and this is the charstring of the one before.
  pub record SpentSoFar (before : Option (List ℕ)) (left : List (List ℕ)) (old new : Option ℕ) : Type 0 where
    pub spent : ℕ
    pub are : spent + tokens_from f before left ≡ font_tokens f
    pub takes : Spends spent old new

  -- before anything is taken
  pub spent_starts : (left : List (List ℕ)) (budget : Option ℕ) → left ≡ names_in f.glyphs → SpentSoFar None left budget budget
  spent_starts left budget is = record {
    spent = 0;
    are = let e : tokens_from f None left ≡ font_tokens f = ap (tokens_from f None) is in omega (arith, e);
    takes = spends_nothing budget;
  }

  module _ (before : Option (List ℕ)) (names left : List (List ℕ)) (n : List ℕ) (old mid : Option ℕ) (is : names ≡ n ∷ left)
      (h : SpentSoFar before names old mid) where
    of_next : (b : Bool) → same_charstring before (maps.get f.glyphs n) ≡ b →
        tokens_from f before names ≡ cond b 0 (glyph_tokens f n) + tokens_from f (maps.get f.glyphs n) left
    unfolding tokens_from
    of_next b same = ap (tokens_from f before) is ∙ ap (λ x. cond x 0 (glyph_tokens f n) + tokens_from f (maps.get f.glyphs n) left) same

    -- the next takes its part
    pub spent_more : (c : Option (List ℕ)) (new : Option ℕ) → c ≡ maps.get f.glyphs n → same_charstring before (maps.get f.glyphs n) ≡ false →
        Spends (glyph_tokens f n) mid new → SpentSoFar c left old new
    spent_more c new there other k = record {
      spent = h.spent + glyph_tokens f n;
      are = let e = of_next false other in let m = ap (λ x. tokens_from f x left) there in omega (arith, e, m, h.are);
      takes = spends_then h.spent (glyph_tokens f n) old mid new h.takes k;
    }

    -- the next takes nothing
    pub spent_again : before ≡ maps.get f.glyphs n → same_charstring before (maps.get f.glyphs n) ≡ true → SpentSoFar before left old mid
    spent_again there same = record {
      spent = h.spent;
      are = let e = of_next true same in let m = ap (λ x. tokens_from f x left) there in omega (arith, e, m, h.are);
      takes = h.takes;
    }

    -- too little is left for the next
    pub spent_refused : same_charstring before (maps.get f.glyphs n) ≡ false → HasFewer mid (glyph_tokens f n) → HasFewer old (font_tokens f)
    spent_refused other k =
        let e = of_next false other in
        fewer_than_more (h.spent + glyph_tokens f n) (font_tokens f) old (omega (arith, e, h.are)) (fewer_then h.spent (glyph_tokens f n) old mid h.takes k)

  -- what was taken in all
  pub spent_ends : (before : Option (List ℕ)) (left : List (List ℕ)) (old new : Option ℕ) → left ≡ [] → SpentSoFar before left old new →
      Spends (font_tokens f) old new
  unfolding tokens_from
  spent_ends before left old new none h =
      let e : tokens_from f before left ≡ 0 = ap (tokens_from f before) none in
      spends_as h.spent (font_tokens f) old new (omega (arith, e, h.are)) h.takes

-- ---- names without repeats, and those that are kept

module _ {K : Type 0} {eq : K → K → Bool} (laws : IsEquivalence eq) (same : (x y : K) → eq x y ≡ true → x ≡ y) (g : K → ℕ) where
  apart_from : (x q : K) (ys : List K) → AllByRecursion (λ y. eq x y ≡ false) ys → list_any (eq q) ys ≡ true → eq x q ≡ false
  apart_from x q [] a m = absurd (true≢false (sym m))
  apart_from x q (y ∷ ys) a m = by (eq q y) refl m (apart_from x q ys a.1)
    where
      by : (b : Bool) → eq q y ≡ b → (b || list_any (eq q) ys) ≡ true → (list_any (eq q) ys ≡ true → eq x q ≡ false) → eq x q ≡ false
      by true t m r = ap (eq x) (same q y t) ∙ a.0
      by false t m r = r m

  still_in : (x q : K) (ys : List K) → eq x q ≡ false → list_any (eq q) (remove_key (eq x) ys) ≡ list_any (eq q) ys
  still_in x q [] n = refl
  still_in x q (y ∷ ys) n = by (eq x y) refl (still_in x q ys n)
    where
      by : (b : Bool) → eq x y ≡ b → list_any (eq q) (remove_key (eq x) ys) ≡ list_any (eq q) ys →
          list_any (eq q) (cond b ys (y ∷ remove_key (eq x) ys)) ≡ (eq q y || list_any (eq q) ys)
      by true t r = ap (λ c. c || list_any (eq q) ys) (sym (laws.symm q y ∙ ap (λ z. eq z q) (sym (same x y t)) ∙ n))
      by false t r = ap (λ c. eq q y || c) r

  found_is : (x : K) (ys : List K) → list_any (eq x) ys ≡ true → find (eq x) ys ≡ Some x
  found_is x [] m = absurd (true≢false (sym m))
  found_is x (y ∷ ys) m = by (eq x y) refl m (found_is x ys)
    where
      by : (b : Bool) → eq x y ≡ b → (b || list_any (eq x) ys) ≡ true → (list_any (eq x) ys ≡ true → find (eq x) ys ≡ Some x) →
          cond b (Some y) (find (eq x) ys) ≡ Some x
      by true t m r = ap (λ (z : K). Some z) (sym (same x y t))
      by false t m r = r m

  -- a sum over keys without repeats is at most that over keys that hold them all
  pub sum_inside : (xs ys : List K) → IsDistinct eq xs → ((q : K) → list_any (eq q) xs ≡ true → list_any (eq q) ys ≡ true) → sum_by g xs ≤ sum_by g ys
  sum_inside [] ys d h = omega arith
  sum_inside (x ∷ xs) ys d h =
      let found : list_any (eq x) ys ≡ true = h x (ap (λ b. b || list_any (eq x) xs) (laws.refl x)) in
      let gone : sum_by g (remove_key (eq x) ys) + g x ≡ sum_by g ys =
      ap (λ (o : Option K). sum_by g (remove_key (eq x) ys) + unwrap_or (option_map g o) 0) (sym (found_is x ys found)) ∙ sum_by-remove_key g (eq x) ys in
      let rest : sum_by g xs ≤ sum_by g (remove_key (eq x) ys) = sum_inside xs (remove_key (eq x) ys) (IsDistinct-tail eq x xs d) (λ q m.
      still_in x q ys (apart_from x q xs (IsDistinct-head eq x xs d) m) ∙ h q (or_right (eq q x) m)) in
      let all : sum_by g (x ∷ xs) ≡ g x + sum_by g xs = sum_by-cons g x xs in
      omega (arith, gone, rest, all)
    where
      or_right : (b : Bool) {c : Bool} → c ≡ true → (b || c) ≡ true
      or_right true m = refl
      or_right false m = m

-- ---- the names of a font, and those that are kept

both : (a b : Bool) → T (a && b) → T a × T b
both true b h = (tt, h)
both false b h = absurd h

less_is : (r : Ordering) → T (is_lt r) → r ≡ Less
less_is Less h = refl
less_is Equal h = absurd h
less_is Greater h = absurd h

below_keys : (n : List ℕ) (es : List (List ℕ × List ℕ)) → T (below_all name_cmp n es) → AllByRecursion (λ y. name_cmp n y ≡ Less) (map (λ e. e.0) es)
below_keys n [] h = tt
below_keys n (e ∷ es) h = let two = both _ _ h in (less_is _ two.0, below_keys n es two.1)

rising : (es : List (List ℕ × List ℕ)) → T (is_sorted name_cmp es) → IsStrictlySortedBy name_cmp (map (λ e. e.0) es)
unfolding IsStrictlySortedBy
rising [] h = tt
rising (e ∷ es) h = let two = both _ _ h in (below_keys e.0 es two.0, rising es two.1)

-- the names of a table are without repeats
names_apart : (m : CharStrings) → IsDistinct same_bytes (names_in m)
names_apart m = IsDistinct-from_sorted name_cmp (names_in m) (rising (maps.entries m) (maps.entries_sorted m))

all_left : (p : List ℕ → Bool) (x : List ℕ) (xs : List (List ℕ)) → AllByRecursion (λ y. same_bytes x y ≡ false) xs →
    AllByRecursion (λ y. same_bytes x y ≡ false) (filter p xs)
all_left p x [] h = tt
all_left p x (y ∷ ys) h =
    elim (p y) as (λ b. AllByRecursion (λ y. same_bytes x y ≡ false) (cond b (y ∷ filter p ys) (filter p ys))) [
      | true ↦ (h.0, all_left p x ys h.1)
      | false ↦ all_left p x ys h.1
    ]

left_apart : (p : List ℕ → Bool) (xs : List (List ℕ)) → IsDistinct same_bytes xs → IsDistinct same_bytes (filter p xs)
left_apart p [] d = d
left_apart p (x ∷ xs) d =
    let rest : IsDistinct same_bytes (filter p xs) = left_apart p xs (IsDistinct-tail same_bytes x xs d) in
    elim (p x) as (λ b. IsDistinct same_bytes (cond b (x ∷ filter p xs) (filter p xs))) [
      | true ↦ IsDistinct-cons same_bytes x (filter p xs) (all_left p x xs (IsDistinct-head same_bytes x xs d)) rest
      | false ↦ rest
    ]

same_names : (x y : List ℕ) → same_bytes x y ≡ true → x ≡ y
same_names x y h = tied nat_list_cmp_total name_same x y h

and_both : (a b : Bool) → a ≡ true → b ≡ true → (a && b) ≡ true
and_both true b h k = k
and_both false b h k = h

module _ (f : FontValue) (a : Names) (ns : List (List ℕ)) (i : ℕ) (k : ClosureSoFar profile f a ns i) where
  is_kept : (q : List ℕ) → list_any (same_bytes q) ns ≡ true → list_any (same_bytes q) (kept_names f a) ≡ true
  is_kept q m =
      any_filtered nat_list_cmp_total name_same (sets.contains (keep profile f a)) q (names_in f.glyphs)
      ∙ and_both _ _ (keep_from profile f a q (k.inside q m) (λ s o c. k.least s o c q m)) (sym (maps.contains_key-keys f.glyphs q) ∙ k.inside q m)

  -- a closure so far costs no more than what is kept
  pub closure_costs : (g : List ℕ → ℕ) → sum_by g ns ≤ sum_by g (kept_names f a)
  closure_costs g = sum_inside (eq_by_cmp_equiv nat_list_cmp_total) same_names g ns (kept_names f a) k.distinct is_kept

  -- and at its end no less
  closure_covers : length ns ≤ i → (g : List ℕ → ℕ) → sum_by g (kept_names f a) ≤ sum_by g ns
  closure_covers end g =
      let all : sets.from_list ns ≡ keep profile f a = closure_end profile f a ns i k end in
      sum_inside (eq_by_cmp_equiv nat_list_cmp_total) same_names g (kept_names f a) ns
      (left_apart (sets.contains (keep profile f a)) (names_in f.glyphs) (names_apart f.glyphs))
      (λ q m. in_list nat_list_cmp_total name_same ns q
      (ap (λ (s : Names). sets.contains s q) all ∙ (any_filter nat_list_cmp_total name_same (sets.contains (keep profile f a)) q (names_in f.glyphs) m).1))

  -- so what was taken for its names was taken for those that are kept
  pub closure_takes : length ns ≤ i → (old new : Option ℕ) → Spends (sum_by (glyph_tokens f) (take i ns)) old new → Spends (kept_tokens f a) old new
  closure_takes end old new h =
      let whole : sum_by (glyph_tokens f) (take i ns) ≡ sum_by (glyph_tokens f) ns = ap (sum_by (glyph_tokens f)) (take_all i ns end) in
      let least = closure_covers end (glyph_tokens f) in
      let most = closure_costs (glyph_tokens f) in
      spends_as (sum_by (glyph_tokens f) (take i ns)) (kept_tokens f a) old new (omega (arith, whole, least, most)) h

  -- if too little is left for the next name, there was too little for those that are kept
  pub closure_refused : (n : List ℕ) → i < length ns → get_or ns i n ≡ n → (old mid : Option ℕ) →
      Spends (sum_by (glyph_tokens f) (take i ns)) old mid → HasFewer mid (glyph_tokens f n) → HasFewer old (kept_tokens f a)
  closure_refused n l at old mid h fewer =
      let part : sum_by (glyph_tokens f) (take (i + 1) ns) ≤ sum_by (glyph_tokens f) ns = sum_by-take-le (glyph_tokens f) ns (i + 1) in
      let whole : sum_by (glyph_tokens f) ns ≤ kept_tokens f a = closure_costs (glyph_tokens f) in
      refused_on (glyph_tokens f) (take i ns) (take (i + 1) ns) n (kept_tokens f a) old mid
      (take_more ns i n l ∙ ap (λ (x : List ℕ). take i ns ++ x ∷ []) at) (omega (arith, part, whole)) h fewer

-- one name more of a closure
pub closure_more : (f : FontValue) (ns found : List (List ℕ)) (i : ℕ) (n : List ℕ) → i < length ns → get_or ns i n ≡ n → (old mid new : Option ℕ) →
    Spends (sum_by (glyph_tokens f) (take i ns)) old mid → Spends (glyph_tokens f n) mid new →
    Spends (sum_by (glyph_tokens f) (take (i + 1) (push_all ns found))) old new
closure_more f ns found i n l at old mid new h k =
    takes_more (glyph_tokens f) (take i ns) (take (i + 1) (push_all ns found)) n old mid new
    (all_front (i + 1) found ns (omega (arith, l)) ∙ take_more ns i n l ∙ ap (λ (x : List ℕ). take i ns ++ x ∷ []) at) h k

-- ---- parts of lists

-- the first few of some cost no more than all
pub sum_taken : {X Y : Type 0} (h : X → Y) (g : Y → ℕ) (i : ℕ) (xs : List X) → sum_by g (map h (take i xs)) ≤ sum_by g (map h xs)
sum_taken h g i xs =
    let whole : sum_by g (map h xs) ≡ sum_by g (map h (take i xs)) + sum_by g (map h (drop i xs)) =
    ap (λ ys. sum_by g (map h ys)) (sym (take-append-drop i xs)) ∙ ap (sum_by g) (map-append h (take i xs) (drop i xs))
    ∙ sum_by-append g (map h (take i xs)) (map h (drop i xs)) in
    omega (arith, whole)

-- ---- two fonts

module _ (f g : FontValue) (old : Option ℕ) where
  two_tokens : fonts_tokens (f ∷ g ∷ []) ≡ font_tokens f + font_tokens g
  two_tokens = let one = sum_by-cons font_tokens f (g ∷ []) in let two = sum_by-cons font_tokens g [] in omega (arith, one, two)

  -- what both took is allowed
  pub two_enough : (mid new : Option ℕ) → Spends (font_tokens f) old mid → Spends (font_tokens g) mid new → IsEnough old (fonts_tokens (f ∷ g ∷ []))
  two_enough mid new h k =
      spends_enough (fonts_tokens (f ∷ g ∷ [])) old new
      (spends_as (font_tokens f + font_tokens g) (fonts_tokens (f ∷ g ∷ [])) old new (sym two_tokens)
      (spends_then (font_tokens f) (font_tokens g) old mid new h k))

  -- too little is left for the first
  pub first_refused : HasFewer old (font_tokens f) → HasFewer old (fonts_tokens (f ∷ g ∷ []))
  first_refused h = fewer_than_more (font_tokens f) (fonts_tokens (f ∷ g ∷ [])) old (omega (arith, two_tokens)) h

  -- too little is left for the second
  pub second_refused : (mid : Option ℕ) → Spends (font_tokens f) old mid → HasFewer mid (font_tokens g) → HasFewer old (fonts_tokens (f ∷ g ∷ []))
  second_refused mid h k =
      fewer_than_more (font_tokens f + font_tokens g) (fonts_tokens (f ∷ g ∷ [])) old (omega (arith, two_tokens))
      (fewer_then (font_tokens f) (font_tokens g) old mid h k)
