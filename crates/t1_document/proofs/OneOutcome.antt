-- The fonts of a name come to one text, or to none.
use Rattle.std.proofs.{Common.{◌≡◌, ℕ, Bool, true, false, refl, sym, ◌∙◌, ap, List, [], ◌∷◌, map, inl, inr, Option, Some, None, Result, Ok, Err}, lemmas.Bool.{true≢false}}
use Rattle.std.proofs.lemmas.Option.{none-some}
use Rattle.std.specs.{List.{list_all}, Option.{option_and_then}, Str.{bytes_eq}}
use Rattle.t1_join.specs.Groupings.{one, from_left}
use Rattle.t1_font.specs.{declared.fault.ReadFault.{ReadFault}, FontValue.{FontValue}, Normalizing.{filled_all}, FontNames.{normalized_named}}
use Rattle.t1_algebra.{specs.{Profile.{profile}, Merges.{ComesTo}}, proofs.Orders.{one_result}}
use Rattle.t1_subset.specs.{declared.conflict.Conflict.{Conflict}, declared.conflict.Conflict.TheVariants.{Memory}, declared.fault.RejoinFault.{RejoinFault}}
use Rattle.t1_subset.specs.{declared.fault.RejoinFault.TheVariants.{Lacks, Merge}, Merger.{NotMerged}, Rejoins.{Rejoin, NotRejoined, NotMergedFilled}}
use Rattle.t1_subset.proofs.{Answered.{never_stops}, Rejoining.{light_or_heavy}}
use Rattle.t1_document.specs.{declared.joins.Kept.{Kept}, declared.joins.Kept.TheVariants.{Unread, Unlike, Barred}, declared.joins.Outcome.{Outcome}}
use Rattle.t1_document.specs.{declared.joins.Outcome.TheVariants.{Same, Joined, Stays}, Fonts.{canon_text}, Documents.{Place}, Rewriting.{NewTexts, can_stand, levelled}}
use Rattle.t1_document.specs.Joins.{is_full, wants_memory, places_under, fonts_of_places, new_texts, text_for_places, ComeTo, OfPlaces, OfFonts, OfNormalized, IsSame}
use Rattle.t1_document.specs.JoinLaws.{OneOutcome, OneLevelled}

-- ---- fonts that rejoin

-- fonts come to one font
one_font : (fs : List FontValue) (j k : FontValue) → ComesTo fs j → ComesTo fs k → j ≡ k
one_font [] j k a b = absurd a
one_font (f ∷ fs) j k a b = one_result profile (from_left (one f) fs) j k a b

-- fonts that come to one are refused for want of memory alone
not_merged : (fs : List FontValue) (j : FontValue) (e : Conflict) → ComesTo fs j → NotMerged fs e → e ≡ Memory
not_merged [] j e a h = absurd a
not_merged (f ∷ fs) j e a (inl h) = h
not_merged (f ∷ fs) j e a (inr h) = never_stops f fs j a e h

-- so are they when they rejoin
not_rejoined : (es : List FontValue) (j : FontValue) (fault : RejoinFault) → Rejoin es j → NotRejoined es fault → wants_memory fault ≡ true
not_rejoined es j (Lacks glyph index) r h = absurd (none-some _ (sym r.lacks ∙ h))
not_rejoined es j (Merge e) r (inl m) = ap is_full m
not_rejoined es j (Merge e) r (inr h) = by_weight h.1
  where
    by_weight : NotMergedFilled es e → is_full e ≡ true
    by_weight (inl k) = ap is_full (not_merged (filled_all es) j e r.comes k.1)
    by_weight (inr k) = absurd (light_or_heavy (filled_all es) r.light k.0)

-- ---- one text

-- fonts that were joined didn't stay
joined_or_stay : (es : List FontValue) (ps : List Place) (t : _) (why : Kept) → OfNormalized es ps (Joined t) → OfNormalized es ps (Stays why) → ⊥
joined_or_stay es ps t (Unread fault) a b = b
joined_or_stay es ps t (Unlike fault) a b = true≢false (sym (not_rejoined es a.0.0 fault a.0.1 b.0) ∙ b.1)
joined_or_stay es ps t Barred a b =
    let same : t.items ≡ b.0 = a.0.2 ∙ (ap canon_text (one_font (filled_all es) a.0.0 b.1.0 a.0.1.comes b.1.1.comes) ∙ sym b.1.2) in
    true≢false (sym a.1 ∙ (ap (λ (u : List ℕ). list_all (can_stand u) ps) same ∙ b.2))

one_of_normalized : (es : List FontValue) (ps : List Place) (a b : Outcome) → OfNormalized es ps a → OfNormalized es ps b →
    text_for_places a ≡ text_for_places b
one_of_normalized es ps (Same t) b h k = absurd h
one_of_normalized es ps (Joined t) (Same u) h k = absurd k
one_of_normalized es ps (Joined t) (Joined u) h k =
    ap (λ (v : List ℕ). Some v) (h.0.2 ∙ (ap canon_text (one_font (filled_all es) h.0.0 k.0.0 h.0.1.comes k.0.1.comes) ∙ sym k.0.2))
one_of_normalized es ps (Joined t) (Stays why) h k = absurd (joined_or_stay es ps t why h k)
one_of_normalized es ps (Stays why) (Same u) h k = absurd k
one_of_normalized es ps (Stays why) (Joined u) h k = absurd (joined_or_stay es ps u why k h)
one_of_normalized es ps (Stays why) (Stays other) h k = refl

one_of_fonts : (name : List ℕ) (ps : List Place) (r : Result (List FontValue) ReadFault) (a b : Outcome) → OfFonts name ps r a → OfFonts name ps r b →
    text_for_places a ≡ text_for_places b
one_of_fonts name ps (Ok fs) a b h k = one_of_normalized (normalized_named name fs) ps a b h k
one_of_fonts name ps (Err fault) a b h k = ap text_for_places (h ∙ sym k)

pub same_text : (text : List ℕ) (o : Outcome) → IsSame text o → text_for_places o ≡ Some text
same_text text (Same t) h = ap (λ (u : List ℕ). Some u) h
same_text text (Joined t) h = absurd h
same_text text (Stays why) h = absurd h

one_of_places : (name : List ℕ) (ps : List Place) (text : List ℕ) (same : Bool) (a b : Outcome) → OfPlaces name ps text same a →
    OfPlaces name ps text same b → text_for_places a ≡ text_for_places b
one_of_places name ps text true a b h k = same_text text a h ∙ sym (same_text text b k)
one_of_places name ps text false a b h k = one_of_fonts name ps (fonts_of_places ps) a b h k

-- places of a name come to one text, or to none
pub one_text_for : (name : List ℕ) (ps : List Place) (a b : Option Outcome) → ComeTo name ps a → ComeTo name ps b →
    option_and_then text_for_places a ≡ option_and_then text_for_places b
one_text_for name [] a b h k = ap (option_and_then text_for_places) (h ∙ sym k)
one_text_for name (p ∷ ps) None b h k = absurd h
one_text_for name (p ∷ ps) (Some a) None h k = absurd k
one_text_for name (p ∷ ps) (Some a) (Some b) h k =
    one_of_places name (p ∷ ps) p.text (list_all (λ q. bytes_eq p.text q.text) ps) a b h k

pub one_outcome : OneOutcome
one_outcome ps a b h k name = one_text_for name (places_under name ps) (a name) (b name) (h name) (k name)

pub one_levelled : OneLevelled
one_levelled documents a b h k =
    let same : new_texts h.0 ≡ new_texts k.0 = λ i name. one_outcome _ h.0 k.0 h.1 k.1 name i in
    h.2 ∙ (ap (λ (new : NewTexts). map (levelled new) documents) same ∙ sym k.2)
