-- What fonts rejoin to is one font, if they do.
use Rattle.std.proofs.Common.{◌≡◌, ℕ, Bool, true, false, cond, refl, sym, ◌∙◌, ap, subst, List, [], ◌∷◌, inl, inr, Option, Some, None, Result, Ok, Err}
use Rattle.std.proofs.lemmas.{Bool.{true≢false, le-leb, leb-true, and_parts}, Option.{none-some, same_Some}}
use Rattle.std.specs.{Prelude.{◌&&◌}, Option.{option_map, option_and_then, is_none}}
use Rattle.t1_join.specs.Groupings.{Grouping, one, two, from_left}
use Rattle.t1_font.specs.{declared.fault.ReadFault.{ReadFault}, FontValue.{FontValue, weight, weight_limit}, Normalizing.{filled_all}, FontNames.{normalized_named}, Filling.{AreLight}}
use Rattle.t1_algebra.specs.{Profile.{profile}, States.{Join, joined_font}, Conflicts.{Conflict as FontConflict, conflict}, Lacks.{Lack, first_lack}, Groupings.{Merges}, Merges.{ComesTo}}
use Rattle.t1_algebra.proofs.{Orders.{one_result}, Conflicts.{no_conflict}, ManyMerges.{inner}}
use Rattle.t1_subset.specs.{declared.conflict.Conflict.{Conflict}, declared.conflict.Conflict.TheVariants.{Memory}, declared.fault.RejoinFault.{RejoinFault}}
use Rattle.t1_subset.specs.{declared.fault.RejoinFault.TheVariants.{Lacks, Merge}, Merger.{NotMerged}, Rejoins.{Rejoin, NotRejoined, NotMergedFilled}}
use Rattle.t1_subset.proofs.{Answered.{never_stops}, Rejoining.{light_or_heavy}}
use Rattle.t1_classes.specs.{Laws.{JoinedRejoin}}
use Rattle.t1_classes.specs.Joining.{unless_apart, joined_from, joined_fonts, are_light, rejoined, font_text, RejoinToText, text_of_fonts, fonts_of_files, joined_text, is_full, wants_memory}

-- ---- joined from left to right

-- where two fonts join, others go on
next : (f g : FontValue) (gs : List FontValue) → conflict profile f g ≡ None → joined_from f (g ∷ gs) ≡ joined_from (joined_font profile f g) gs
unfolding joined_from
next f g gs e = ap (λ (c : Option FontConflict). option_and_then (λ j. joined_from j gs) (unless_apart c (joined_font profile f g))) e

-- fonts that merge to j are joined to it
merged_joined : (t : Grouping FontValue) (f : FontValue) (fs : List FontValue) (j : FontValue) → Merges profile t f → Merges profile (from_left t fs) j →
    joined_from f fs ≡ Some j
unfolding joined_from
merged_joined t f [] j first all = ap (λ (k : FontValue). Some k) (one_result profile t f j first all)
merged_joined t f (g ∷ gs) j first all =
    let m = (inner (two t (one g)) gs j all).1 in
    let join : Join profile f g = subst (λ (h : FontValue). Join profile f h) (sym m.3)
    (subst (λ (h : FontValue). Join profile h m.1) (one_result profile t m.0 f m.2 first) m.4.0) in
    next f g gs ((no_conflict profile f g).1 join)
    ∙ merged_joined (two t (one g)) (joined_font profile f g) gs j (f, g, first, refl, (join, refl)) all

-- fonts that are joined to j merge to it
joined_merged : (t : Grouping FontValue) (f : FontValue) (fs : List FontValue) (j : FontValue) → Merges profile t f → joined_from f fs ≡ Some j →
    Merges profile (from_left t fs) j
unfolding joined_from
joined_merged t f [] j first e = subst (Merges profile t) (same_Some f j e) first
joined_merged t f (g ∷ gs) j first e = by_conflict
    (λ join. joined_merged (two t (one g)) (joined_font profile f g) gs j (f, g, first, refl, (join, refl))) (conflict profile f g) refl e
  where
    by_conflict : (Join profile f g → joined_from (joined_font profile f g) gs ≡ Some j → Merges profile (from_left (two t (one g)) gs) j) →
        (c : Option FontConflict) → conflict profile f g ≡ c → option_and_then (λ k. joined_from k gs) (unless_apart c (joined_font profile f g)) ≡ Some j →
        Merges profile (from_left (two t (one g)) gs) j
    by_conflict more None k d = more ((no_conflict profile f g).0 k) d
    by_conflict more (Some c) k d = absurd (none-some j d)

comes_joined : (fs : List FontValue) (j : FontValue) → ComesTo fs j → joined_fonts fs ≡ Some j
comes_joined [] j h = absurd h
comes_joined (f ∷ fs) j h = merged_joined (one f) f fs j refl h

joined_comes : (fs : List FontValue) (j : FontValue) → joined_fonts fs ≡ Some j → ComesTo fs j
joined_comes [] j e = absurd (none-some j e)
joined_comes (f ∷ fs) j e = joined_merged (one f) f fs j refl e

-- ---- weights

light_true : (fs : List FontValue) → AreLight fs → are_light fs ≡ true
light_true [] h = refl
light_true (f ∷ fs) h = ap (λ (b : Bool). b && are_light fs) (le-leb (weight f) weight_limit h.0) ∙ light_true fs h.1

true_light : (fs : List FontValue) → are_light fs ≡ true → AreLight fs
true_light [] e = tt
true_light (f ∷ fs) e =
    let parts = and_parts _ (are_light fs) e in
    (leb-true (weight f) weight_limit parts.0, true_light fs parts.1)

-- ---- what fonts rejoin to

pub rejoins : (fs : List FontValue) (j : FontValue) → Rejoin fs j → rejoined fs ≡ Some j
unfolding rejoined
rejoins fs j r =
    (λ i. cond (is_none (r.lacks i) && light_true (filled_all fs) r.light i) (joined_fonts (filled_all fs)) None) ∙ comes_joined (filled_all fs) j r.comes

pub rejoins_so : (fs : List FontValue) (j : FontValue) → rejoined fs ≡ Some j → Rejoin fs j
unfolding rejoined
rejoins_so fs j e = by_tests (first_lack fs) refl (are_light (filled_all fs)) refl e
  where
    by_tests : (o : Option Lack) → first_lack fs ≡ o → (b : Bool) → are_light (filled_all fs) ≡ b →
        cond (is_none o && b) (joined_fonts (filled_all fs)) None ≡ Some j → Rejoin fs j
    by_tests None e true k d = record { lacks = e; light = true_light (filled_all fs) k; comes = joined_comes (filled_all fs) j d }
    by_tests None e false k d = absurd (none-some j d)
    by_tests (Some l) e b k d = absurd (none-some j d)

-- fonts that come to one are refused for want of memory alone
not_merged : (fs : List FontValue) (j : FontValue) (e : Conflict) → ComesTo fs j → NotMerged fs e → e ≡ Memory
not_merged [] j e a h = absurd a
not_merged (f ∷ fs) j e a (inl h) = h
not_merged (f ∷ fs) j e a (inr h) = never_stops f fs j a e h

-- so are they when they rejoin
not_rejoined : (fs : List FontValue) (j : FontValue) (fault : RejoinFault) → Rejoin fs j → NotRejoined fs fault → wants_memory fault ≡ true
not_rejoined fs j (Lacks glyph index) r h = absurd (none-some _ (sym r.lacks ∙ h))
not_rejoined fs j (Merge e) r (inl m) = ap is_full m
not_rejoined fs j (Merge e) r (inr h) = by_weight h.1
  where
    by_weight : NotMergedFilled fs e → is_full e ≡ true
    by_weight (inl k) = ap is_full (not_merged (filled_all fs) j e r.comes k.1)
    by_weight (inr k) = absurd (light_or_heavy (filled_all fs) r.light k.0)

-- ---- texts

pub text_joins : (fs : List FontValue) (text : List ℕ) → RejoinToText fs text → option_map font_text (rejoined fs) ≡ Some text
text_joins fs text h = ap (option_map font_text) (rejoins fs h.0 h.1) ∙ ap (λ (t : List ℕ). Some t) (sym h.2)

pub none_joins : (fs : List FontValue) (fault : RejoinFault) → NotRejoined fs fault → wants_memory fault ≡ false → option_map font_text (rejoined fs) ≡ None
none_joins fs fault h m = by_join (rejoined fs) refl
  where
    by_join : (o : Option FontValue) → rejoined fs ≡ o → option_map font_text (rejoined fs) ≡ None
    by_join None e = ap (option_map font_text) e
    by_join (Some j) e = absurd (true≢false (sym (not_rejoined fs j fault (rejoins_so fs j e) h) ∙ m))

text_rejoins : (fs : List FontValue) (text : List ℕ) → option_map font_text (rejoined fs) ≡ Some text → RejoinToText fs text
text_rejoins fs text e = by_join (rejoined fs) refl e
  where
    by_join : (o : Option FontValue) → rejoined fs ≡ o → option_map font_text o ≡ Some text → RejoinToText fs text
    by_join None k d = absurd (none-some text d)
    by_join (Some j) k d = (j, rejoins_so fs j k, sym (same_Some (font_text j) text d))

pub joined_rejoin : JoinedRejoin
unfolding joined_text
joined_rejoin name files text e = by_fonts (fonts_of_files files) refl e
  where
    by_fonts : (r : Result (List FontValue) ReadFault) → fonts_of_files files ≡ r → text_of_fonts name r ≡ Some text →
        (fonts : List FontValue) × (fonts_of_files files ≡ Ok fonts) × RejoinToText (normalized_named name fonts) text
    by_fonts (Ok fonts) k d = (fonts, k, text_rejoins (normalized_named name fonts) text d)
    by_fonts (Err fault) k d = absurd (none-some text d)
