-- In another order documents get the same texts.
use Rattle.std.proofs.Common.{◌≡◌, ℕ, arith, Bool, true, false, cond, max, refl, sym, ◌∙◌, ap, subst, List, [], ◌∷◌, ◌++◌, map, IsPermutation, Option, Some, None, Result, Ok, Err}
use Rattle.std.proofs.{lemmas.Bool.{and_parts, true≢false}, lemmas.Option.{none-some}, lemmas.Slice.Eq.{bytes_eq-Decides}}
use Rattle.std.proofs.lemmas.List.Sorted.{IsPermutation-refl, IsPermutation-sym, IsPermutation-trans, IsPermutation-map, IsPermutation-cons, length_permutation, list_any-IsPermutation}
use Rattle.std.specs.{Prelude.{◌&&◌, not, nat_lt}, List.{AllByRecursion, list_all, flat_map}, Option.{option_and_then, option_map}, Str.{bytes_eq}, Ordering.{nat_cmp, eq_by_cmp}, Cmp.{nat_cmp_total}}
use Rattle.std.specs.FinMap.{get-from_entries, same_map, nat_cmp-IsAntisymmetric}
use Rattle.t1_bytes.specs.Laws.{AreBytes}
use Rattle.t1_join.{specs.Groupings.{one, from_left, leaves}, proofs.OrderLemmas.{leaves_from_left}}
use Rattle.t1_font.specs.{declared.fault.ReadFault.{ReadFault}, FontValue.{FontValue, declared_count}, IsFont.{IsFont}, Cut.{stub}, Maps.{merged}, ReadFont.{read_font_widely}}
use Rattle.t1_font.specs.FontBoxes.{box_of, can_have, font_with, boxes_of, boxed_by, boxed}
use Rattle.t1_text.specs.Boxes.{Box, joined_box}
use Rattle.t1_font.specs.Normalizing.{normal, stubs_at, below_count, with_stubs, filled, largest_count, indices_of_all, each_normal, normalized_shells, filled_all}
use Rattle.t1_font.specs.FontNames.{named, normalized_named}
use Rattle.t1_font.proofs.normal_fonts.Filled.{find_stub}
use Rattle.t1_text.proofs.BoxOrder.{in_any_order}
use Rattle.t1_algebra.specs.{Profile.{profile}, Lacks.{Lack, first_below, user_of, is_had, lack_in, lack_among, first_lack}, Searches.{found}, Merges.{ComesTo}}
use Rattle.t1_algebra.proofs.{Fonts.{any_order_of_fonts}, ManyMerges.{each_font}}
use Rattle.t1_subset.specs.Rejoins.{Rejoin}
use Rattle.t1_document.specs.{declared.joins.Outcome.{Outcome}, declared.joins.Outcome.TheVariants.{Same, Joined, Stays}, Documents.{Place, document_of}, Rewriting.{can_stand}}
use Rattle.t1_document.specs.Joins.{Outcomes, AreOutcomes, places_of_all, places_under, fonts_of_places, with_font, new_texts, text_for_places, ComeTo, OfPlaces, OfFonts, IsSame}
use Rattle.t1_document.specs.{JoinLaws.{InAnyOrder}, Pooling.{under_key, keyed}, PoolLaws.{InAnyOrderByKeys}}
use Rattle.t1_document.proofs.{Exchanges.{Exchanged, exchanged_first, in_each_order, flat_in_order, filter_in_order, all_in_order}, Drawn.{shells_are_fonts, each_filled, each_named}}
use Rattle.t1_document.proofs.{OneOutcome.{one_text_for}, Again.{HaveText, have_same}}
use Rattle.t1_document.proofs.{NewTextsDraw.{IsSound, IsUnder, AreFonts, all_sound, sound_under, fonts_read, fonts_sound}, KeyedPlaces.{keyed_sound}}
use Rattle.std.specs.FinMap as maps

-- ---- tests and counts

list_all_moves : {X : Type 0} (p : X → Bool) (xs ys : List X) → Exchanged xs ys → list_all p xs ≡ list_all p ys
list_all_moves p xs ys e = ap (list_all p) e.before ∙ (middle e.front ∙ ap (list_all p) (sym e.after))
  where
    two : (a b c : Bool) → (a && (b && c)) ≡ (b && (a && c))
    two true b c = refl
    two false true c = refl
    two false false c = refl

    middle : (front : List _) → list_all p (front ++ e.x ∷ e.y ∷ e.back) ≡ list_all p (front ++ e.y ∷ e.x ∷ e.back)
    middle [] = two (p e.x) (p e.y) (list_all p e.back)
    middle (z ∷ front) = ap (λ (b : Bool). p z && b) (middle front)

list_all_in_order : {X : Type 0} (p : X → Bool) (xs ys : List X) → IsPermutation xs ys → list_all p xs ≡ list_all p ys
list_all_in_order p xs ys moved = in_each_order (λ l. list_all p xs ≡ list_all p l) (λ l m e h. h ∙ list_all_moves p l m e) xs ys moved refl

max_moves : (a b c : ℕ) → max a (max b c) ≡ max b (max a c)
max_moves a b c = omega arith

count_moves : (fs gs : List FontValue) → Exchanged fs gs → largest_count fs ≡ largest_count gs
count_moves fs gs e = ap largest_count e.before ∙ (middle e.front ∙ ap largest_count (sym e.after))
  where
    middle : (front : List FontValue) → largest_count (front ++ e.x ∷ e.y ∷ e.back) ≡ largest_count (front ++ e.y ∷ e.x ∷ e.back)
    middle [] = max_moves (declared_count e.x.shell.subrs) (declared_count e.y.shell.subrs) (largest_count e.back)
    middle (f ∷ front) = ap (max (declared_count f.shell.subrs)) (middle front)

count_in_order : (fs gs : List FontValue) → IsPermutation fs gs → largest_count fs ≡ largest_count gs
count_in_order fs gs moved = in_each_order (λ l. largest_count fs ≡ largest_count l) (λ l m e h. h ∙ count_moves l m e) fs gs moved refl

-- ---- boxes

-- two lists of boxes in another order, or none twice
abbrev BoxesAlike : Option (List Box) → Option (List Box) → Type 0
BoxesAlike None None = Unit {0}
BoxesAlike None (Some cs) = ⊥
BoxesAlike (Some bs) None = ⊥
BoxesAlike (Some bs) (Some cs) = IsPermutation bs cs

alike_same : (o : Option (List Box)) → BoxesAlike o o
alike_same None = tt
alike_same (Some bs) = IsPermutation-refl bs

alike_through : (o p q : Option (List Box)) → BoxesAlike o p → BoxesAlike p q → BoxesAlike o q
alike_through None None None h k = tt
alike_through None None (Some ds) h k = absurd k
alike_through None (Some cs) q h k = absurd h
alike_through (Some bs) None q h k = absurd h
alike_through (Some bs) (Some cs) None h k = absurd k
alike_through (Some bs) (Some cs) (Some ds) h k = IsPermutation-trans bs cs ds h k

-- a box before others, if there are boxes
abbrev box_before : Option Box → Option (List Box) → Option (List Box)
box_before b o = option_and_then (λ b. option_map (λ bs. b ∷ bs) o) b

alike_more : (b : Option Box) (o p : Option (List Box)) → BoxesAlike o p → BoxesAlike (box_before b o) (box_before b p)
alike_more None o p h = tt
alike_more (Some b) None None h = tt
alike_more (Some b) None (Some cs) h = absurd h
alike_more (Some b) (Some bs) None h = absurd h
alike_more (Some b) (Some bs) (Some cs) h = IsPermutation-cons b bs cs h

alike_moves : (b c : Option Box) (o : Option (List Box)) → BoxesAlike (box_before b (box_before c o)) (box_before c (box_before b o))
alike_moves None None o = tt
alike_moves None (Some c) None = tt
alike_moves None (Some c) (Some bs) = tt
alike_moves (Some b) None None = tt
alike_moves (Some b) None (Some bs) = tt
alike_moves (Some b) (Some c) None = tt
alike_moves (Some b) (Some c) (Some bs) = exchanged_first b c bs

boxes_move : (fs gs : List FontValue) → Exchanged fs gs → BoxesAlike (boxes_of fs) (boxes_of gs)
boxes_move fs gs e =
    subst (λ (l : List FontValue). BoxesAlike (boxes_of l) (boxes_of gs)) (sym e.before)
    (subst (λ (l : List FontValue). BoxesAlike (boxes_of (e.front ++ e.x ∷ e.y ∷ e.back)) (boxes_of l)) (sym e.after) (middle e.front))
  where
    middle : (front : List FontValue) → BoxesAlike (boxes_of (front ++ e.x ∷ e.y ∷ e.back)) (boxes_of (front ++ e.y ∷ e.x ∷ e.back))
    middle [] = alike_moves (box_of e.x.shell) (box_of e.y.shell) (boxes_of e.back)
    middle (f ∷ front) = alike_more (box_of f.shell) (boxes_of (front ++ e.x ∷ e.y ∷ e.back)) (boxes_of (front ++ e.y ∷ e.x ∷ e.back)) (middle front)

boxes_in_order : (fs gs : List FontValue) → IsPermutation fs gs → BoxesAlike (boxes_of fs) (boxes_of gs)
boxes_in_order fs gs moved =
    in_each_order (λ l. BoxesAlike (boxes_of fs) (boxes_of l))
    (λ l m e h. alike_through (boxes_of fs) (boxes_of l) (boxes_of m) h (boxes_move l m e)) fs gs moved (alike_same (boxes_of fs))

boxed_in_order : (fs gs : List FontValue) → IsPermutation fs gs → IsPermutation (boxed fs) (boxed gs)
boxed_in_order fs gs moved = by_boxes (boxes_of fs) (boxes_of gs) (boxes_in_order fs gs moved)
  where
    by_test : (u : Box) (b : Bool) → IsPermutation (cond b (map (font_with u) fs) fs) (cond b (map (font_with u) gs) gs)
    by_test u true = IsPermutation-map (font_with u) fs gs moved
    by_test u false = moved

    by_boxes : (o p : Option (List Box)) → BoxesAlike o p → IsPermutation (boxed_by fs o) (boxed_by gs p)
    by_boxes None None h = moved
    by_boxes None (Some cs) h = absurd h
    by_boxes (Some bs) None h = absurd h
    by_boxes (Some bs) (Some cs) h =
        let u = joined_box bs in
        let test : list_all (can_have u) fs ≡ list_all (can_have u) gs = list_all_in_order (can_have u) fs gs moved in
        subst (λ (v : Box). IsPermutation (boxed_by fs (Some bs)) (cond (list_all (can_have v) gs) (map (font_with v) gs) gs)) (in_any_order bs cs h)
        (subst (λ (b : Bool). IsPermutation (cond (list_all (can_have u) fs) (map (font_with u) fs) fs) (cond b (map (font_with u) gs) gs)) test
        (by_test u (list_all (can_have u) fs)))

-- ---- stubs

stubs_in_order : (is js : List ℕ) → IsPermutation is js → stubs_at is ≡ stubs_at js
stubs_in_order is js moved = same_map nat_cmp_total nat_cmp-IsAntisymmetric _ _ (λ q.
    get-from_entries nat_cmp_total (map (λ i. (i, stub)) is) q
    ∙ (find_stub q is
    ∙ (ap (λ (b : Bool). cond b (Some stub) None) (list_any-IsPermutation (eq_by_cmp nat_cmp q) is js moved)
    ∙ (sym (find_stub q js) ∙ sym (get-from_entries nat_cmp_total (map (λ i. (i, stub)) js) q)))))

filled_same : (is js : List ℕ) → IsPermutation is js → (f : FontValue) → filled is f ≡ filled js f
filled_same is js moved f =
    let n = declared_count f.shell.subrs in
    let same : stubs_at (below_count n is) ≡ stubs_at (below_count n js) =
    stubs_in_order (below_count n is) (below_count n js) (filter_in_order (λ i. nat_lt i n) is js moved) in
    λ k. record { shell = f.shell; encoding = f.encoding; subrs = by_entries (maps.entries f.subrs) same k; glyphs = f.glyphs }
  where
    by_entries : (es : List (ℕ × List ℕ)) → stubs_at (below_count (declared_count f.shell.subrs) is)
        ≡ stubs_at (below_count (declared_count f.shell.subrs) js) →
        with_stubs (below_count (declared_count f.shell.subrs) is) f.subrs es ≡ with_stubs (below_count (declared_count f.shell.subrs) js) f.subrs es
    by_entries [] same = refl
    by_entries (e ∷ es) same = ap (merged f.subrs) same

all_filled : (is js : List ℕ) → IsPermutation is js → (fs : List FontValue) → map (filled is) fs ≡ map (filled js) fs
all_filled is js moved [] = refl
all_filled is js moved (f ∷ fs) = λ k. filled_same is js moved f k ∷ all_filled is js moved fs k

filled_in_order : (fs gs : List FontValue) → IsPermutation fs gs → IsPermutation (filled_all fs) (filled_all gs)
filled_in_order fs gs moved =
    let is = indices_of_all fs in
    let js = indices_of_all gs in
    subst (IsPermutation (map (filled is) fs)) (all_filled is js (flat_in_order (λ f. maps.keys f.subrs) fs gs moved) gs)
    (IsPermutation-map (filled is) fs gs moved)

-- ---- lacks

-- none of two that were looked for
found_none : {X : Type 0} (o p : Option X) → found (λ x. x) o p ≡ None → (o ≡ None) × (p ≡ None)
found_none None p h = (refl, h)
found_none (Some x) p h = absurd (none-some x (sym h))

each_lacks_none : (all fs : List FontValue) → lack_among all fs ≡ None → AllByRecursion (λ f. lack_in all f ≡ None) fs
each_lacks_none all [] h = tt
each_lacks_none all (f ∷ fs) h = let both = found_none (lack_in all f) (lack_among all fs) h in (both.0, each_lacks_none all fs both.1)

lacks_none : (all fs : List FontValue) → AllByRecursion (λ f. lack_in all f ≡ None) fs → lack_among all fs ≡ None
lacks_none all [] h = refl
lacks_none all (f ∷ fs) h = ap (λ (o : Option Lack). found (λ (l : Lack). l) o (lack_among all fs)) h.0 ∙ lacks_none all fs h.1

lack_moves : (fs gs : List FontValue) → IsPermutation fs gs → (f : FontValue) → lack_in fs f ≡ lack_in gs f
lack_moves fs gs moved f =
    let had : (i : ℕ) → is_had fs i ≡ is_had gs i = λ i. list_any-IsPermutation (λ g. maps.contains_key g.subrs i) fs gs moved in
    λ k. first_below (λ i. cond (not (maps.contains_key f.subrs i) && had i k) (option_map (λ n. (i, n)) (user_of f i)) None) (declared_count f.shell.subrs)

no_lack_in_order : (fs gs : List FontValue) → IsPermutation fs gs → first_lack fs ≡ None → first_lack gs ≡ None
no_lack_in_order fs gs moved h =
    let each : AllByRecursion (λ f. lack_in fs f ≡ None) gs = all_in_order (λ f. lack_in fs f ≡ None) fs gs moved (each_lacks_none fs fs h) in
    lacks_none gs gs (others gs each)
  where
    others : (hs : List FontValue) → AllByRecursion (λ f. lack_in fs f ≡ None) hs → AllByRecursion (λ f. lack_in gs f ≡ None) hs
    others [] k = tt
    others (g ∷ hs) k = (sym (lack_moves fs gs moved g) ∙ k.0, others hs k.1)

-- ---- what fonts come to

comes_in_order : (fs gs : List FontValue) (j : FontValue) → AllByRecursion IsFont fs → IsPermutation fs gs → ComesTo fs j → ComesTo gs j
comes_in_order [] gs j h moved c = absurd c
comes_in_order (f ∷ fs) [] j h moved c = let never = length_permutation (f ∷ fs) [] moved in absurd (omega (arith, never))
comes_in_order (f ∷ fs) (g ∷ gs) j h moved c =
    let there = from_left (one g) gs in
    let leaves_moved = subst (λ (l : List FontValue). IsPermutation l (leaves there)) (sym (leaves_from_left (one f) fs))
    (subst (IsPermutation (f ∷ fs)) (sym (leaves_from_left (one g) gs)) moved) in
    (any_order_of_fonts profile (from_left (one f) fs) there leaves_moved (each_font f fs h) j c).1

normalized_in_order : (name : List ℕ) (fs gs : List FontValue) → IsPermutation fs gs → IsPermutation (normalized_named name fs) (normalized_named name gs)
normalized_in_order name fs gs moved =
    let normal_moved : IsPermutation (each_normal fs) (each_normal gs) =
    subst (λ (n : ℕ). IsPermutation (each_normal fs) (map (normal n) gs)) (count_in_order fs gs moved)
    (IsPermutation-map (normal (largest_count fs)) fs gs moved) in
    IsPermutation-map (named name) (normalized_shells fs) (normalized_shells gs) (boxed_in_order (each_normal fs) (each_normal gs) normal_moved)

rejoin_in_order : (name : List ℕ) (fs gs : List FontValue) (j : FontValue) → AreBytes name → AllByRecursion IsFont fs → IsPermutation fs gs →
    Rejoin (normalized_named name fs) j → Rejoin (normalized_named name gs) j
rejoin_in_order name fs gs j n h moved r =
    let es = normalized_named name fs in
    let ds = normalized_named name gs in
    let shells = normalized_in_order name fs gs moved in
    let all = filled_in_order es ds shells in
    let fonts = each_filled (indices_of_all es) es (each_named name (normalized_shells fs) n (shells_are_fonts fs h)) r.light in
    record {
      lacks = no_lack_in_order es ds shells r.lacks;
      light = all_in_order _ (filled_all es) (filled_all ds) all r.light;
      comes = comes_in_order (filled_all es) (filled_all ds) j fonts all r.comes;
    }

-- ---- the fonts of places

-- what was read, as a list
abbrev listed : Result FontValue ReadFault → List FontValue
listed (Ok f) = f ∷ []
listed (Err fault) = []

-- the fonts that places spell
abbrev all_fonts : List Place → List FontValue
all_fonts ps = flat_map (λ p. listed (read_font_widely p.text)) ps

fonts_are : (ps : List Place) (fs : List FontValue) → AreFonts ps fs → fs ≡ all_fonts ps
fonts_are [] [] h = refl
fonts_are [] (f ∷ fs) h = absurd h
fonts_are (p ∷ ps) [] h = absurd h
fonts_are (p ∷ ps) (f ∷ fs) h = λ k. listed (sym h.0 k) ++ fonts_are ps fs h.1 k

spelled_fonts : (name : List ℕ) (ps : List Place) → AllByRecursion (IsUnder name) ps → fonts_of_places ps ≡ Ok (all_fonts ps)
spelled_fonts name [] u = refl
spelled_fonts name (p ∷ ps) u =
    let e = u.0.0.spelled in
    (λ k. with_font (e k) (spelled_fonts name ps u.1 k)) ∙ ap (λ (r : Result FontValue ReadFault). Ok (listed r ++ all_fonts ps)) (sym e)

-- ---- what a name gets

-- the places of the name get this text
abbrev Gets : List ℕ → List Place → List ℕ → Type 0
Gets name ps text = (o : Outcome) × ComeTo name ps (Some o) × (text_for_places o ≡ Some text)

have_of : (text : List ℕ) (ps : List Place) → list_all (λ q. bytes_eq text q.text) ps ≡ true → HaveText text ps
have_of text [] h = tt
have_of text (p ∷ ps) h =
    let both = and_parts (bytes_eq text p.text) (list_all (λ q. bytes_eq text q.text) ps) h in
    (sym ((bytes_eq-Decides text p.text).0 both.0), have_of text ps both.1)

module _ (name : List ℕ) (p q : Place) (ps qs : List Place) (moved : IsPermutation (p ∷ ps) (q ∷ qs))
    (u : AllByRecursion (IsUnder name) (p ∷ ps)) (v : AllByRecursion (IsUnder name) (q ∷ qs)) where
  abbrev all_same : Bool
  all_same = list_all (λ r. bytes_eq p.text r.text) ps

  same_there : (o : Outcome) (text : List ℕ) → all_same ≡ true → IsSame p.text o → text_for_places o ≡ Some text → Gets name (q ∷ qs) text
  same_there o text t h e =
      let have : HaveText p.text (q ∷ qs) = all_in_order (λ r. r.text ≡ p.text) (p ∷ ps) (q ∷ qs) moved (refl, have_of p.text ps t) in
      let test : list_all (λ r. bytes_eq q.text r.text) qs ≡ true = have_same q.text p.text qs have.0 have.1 in (
        o,
        subst (λ (b : Bool). OfPlaces name (q ∷ qs) q.text b o) (sym test) (subst (λ (t : List ℕ). IsSame t o) (sym have.0) h),
        e,
      )

  -- where not all are the same here, they are not there
  others_there : all_same ≡ false → list_all (λ r. bytes_eq q.text r.text) qs ≡ false
  others_there t = by_test (list_all (λ r. bytes_eq q.text r.text) qs) refl
    where
      by_test : (b : Bool) → list_all (λ r. bytes_eq q.text r.text) qs ≡ b → b ≡ false
      by_test false e = refl
      by_test true e =
          let have : HaveText q.text (p ∷ ps) =
          all_in_order (λ r. r.text ≡ q.text) (q ∷ qs) (p ∷ ps) (IsPermutation-sym (p ∷ ps) (q ∷ qs) moved) (refl, have_of q.text qs e) in
          absurd (true≢false (sym (have_same p.text q.text ps have.0 have.1) ∙ t))

  joined_there : (r : Result (List FontValue) ReadFault) → fonts_of_places (p ∷ ps) ≡ r → (o : Outcome) (text : List ℕ) → all_same ≡ false →
      OfFonts name (p ∷ ps) r o → text_for_places o ≡ Some text → Gets name (q ∷ qs) text
  joined_there (Err fault) k o text t h e = absurd (none-some text (ap text_for_places (sym h) ∙ e))
  joined_there (Ok fs) k (Same x) text t h e = absurd h
  joined_there (Ok fs) k (Stays why) text t h e = absurd (none-some text e)
  joined_there (Ok fs) k (Joined x) text t h e =
      let are = fonts_read (p ∷ ps) fs k in
      let gs = all_fonts (q ∷ qs) in
      let fonts_moved : IsPermutation fs gs = subst (λ (l : List FontValue). IsPermutation l gs) (sym (fonts_are (p ∷ ps) fs are))
      (flat_in_order (λ r. listed (read_font_widely r.text)) (p ∷ ps) (q ∷ qs) moved) in
      let bytes : AreBytes name = subst AreBytes u.0.1 u.0.0.name in
      let there = rejoin_in_order name fs gs h.0.0 bytes (fonts_sound name (p ∷ ps) fs u are) fonts_moved h.0.1 in
      let stand : list_all (can_stand x.items) (q ∷ qs) ≡ true = sym (list_all_in_order (can_stand x.items) (p ∷ ps) (q ∷ qs) moved) ∙ h.1 in (
        Joined x,
        subst (λ (b : Bool). OfPlaces name (q ∷ qs) q.text b (Joined x)) (sym (others_there t))
            (subst (λ (r : Result (List FontValue) ReadFault). OfFonts name (q ∷ qs) r (Joined x)) (sym (spelled_fonts name (q ∷ qs) v))
            ((h.0.0, there, h.0.2), stand)),
        e,
      )

  by_places : (b : Bool) → all_same ≡ b → (o : Outcome) (text : List ℕ) → OfPlaces name (p ∷ ps) p.text b o → text_for_places o ≡ Some text →
      Gets name (q ∷ qs) text
  by_places true t o text h e = same_there o text t h e
  by_places false t o text h e = joined_there (fonts_of_places (p ∷ ps)) refl o text t h e

gets_in_order : (name : List ℕ) (ps qs : List Place) (text : List ℕ) → IsPermutation ps qs → AllByRecursion (IsUnder name) ps → Gets name ps text →
    Gets name qs text
gets_in_order name [] qs text moved u (o, h, e) = absurd (none-some o (sym h))
gets_in_order name (p ∷ ps) [] text moved u g = let never = length_permutation (p ∷ ps) [] moved in absurd (omega (arith, never))
gets_in_order name (p ∷ ps) (q ∷ qs) text moved u (o, h, e) =
    let v = all_in_order (IsUnder name) (p ∷ ps) (q ∷ qs) moved u in
    by_places name p q ps qs moved u v (list_all (λ r. bytes_eq p.text r.text) ps) refl o text h e

-- if there is a text it is that of an outcome
gets_of : (name : List ℕ) (ps : List Place) (o : Option Outcome) (text : List ℕ) → ComeTo name ps o → option_and_then text_for_places o ≡ Some text →
    Gets name ps text
gets_of name ps None text h e = absurd (none-some text e)
gets_of name ps (Some o) text h e = (o, h, e)

-- what one list of places gets the other gets
one_way : (name : List ℕ) (ps qs : List Place) (a b : Option Outcome) (text : List ℕ) → IsPermutation ps qs → AllByRecursion (IsUnder name) ps →
    ComeTo name ps a → ComeTo name qs b → option_and_then text_for_places a ≡ Some text → option_and_then text_for_places b ≡ Some text
one_way name ps qs a b text moved u h k e =
    let g = gets_in_order name ps qs text moved u (gets_of name ps a text h e) in
    one_text_for name qs b (Some g.0) k g.1 ∙ g.2

both_ways : (a b : Option (List ℕ)) → ((text : List ℕ) → a ≡ Some text → b ≡ Some text) → ((text : List ℕ) → b ≡ Some text → a ≡ Some text) → a ≡ b
both_ways None None there back = refl
both_ways None (Some t) there back = back t refl
both_ways (Some t) b there back = sym (there t refl)

-- places in another order get the same texts
pub in_any_order_of_places : (ps qs : List Place) → AllByRecursion IsSound ps → IsPermutation ps qs → (a b : Outcomes) → AreOutcomes ps a → AreOutcomes qs b →
    (name : List ℕ) → new_texts a name ≡ new_texts b name
in_any_order_of_places ps qs sound moved a b h k name =
    let under_moved = filter_in_order (λ p. bytes_eq p.name name) ps qs moved in
    let u = sound_under name ps sound in
    let v = all_in_order (IsUnder name) (places_under name ps) (places_under name qs) under_moved u in
    both_ways (new_texts a name) (new_texts b name)
    (λ text e. one_way name (places_under name ps) (places_under name qs) (a name) (b name) text under_moved u (h name) (k name) e)
    (λ text e. one_way name (places_under name qs) (places_under name ps) (b name) (a name) text (IsPermutation-sym _ _ under_moved) v (k name) (h name) e)

-- so do the places of documents
pub places_moved : (documents others : List (List ℕ)) → IsPermutation documents others → IsPermutation (places_of_all documents) (places_of_all others)
places_moved documents others moved = flat_in_order (λ d. (document_of d).places) documents others moved

pub in_any_order_of_documents : InAnyOrder
in_any_order_of_documents documents others bytes moved a b h k name =
    in_any_order_of_places (places_of_all documents) (places_of_all others) (all_sound documents bytes) (places_moved documents others moved) a b h k name

pub in_any_order_by_keys : InAnyOrderByKeys
in_any_order_by_keys by documents others bytes moved a b h k key =
    let ps = places_of_all documents in
    let qs = places_of_all others in
    in_any_order_of_places (keyed by ps) (keyed by qs) (keyed_sound by ps (all_sound documents bytes))
    (IsPermutation-map (under_key by) ps qs (places_moved documents others moved)) a b h k key
