-- What was joined is joined to itself.
use Rattle.std.proofs.{Common.{◌≡◌, ℕ, Bool, true, false, cond, refl, sym, ◌∙◌, ap, subst, List, [], ◌∷◌, ◌++◌, map, inl, inr, Option, Some, None, Result, Ok, Err}, Math.Bool.{and-false}}
use Rattle.std.proofs.{lemmas.Bool.{and_parts}, lemmas.List.{map-append}, lemmas.Option.{none-some, same_Some}, lemmas.Slice.Eq.{bytes_eq-Decides}}
use Rattle.std.specs.{Prelude.{◌&&◌, ◌||◌, not}, List.{AllByRecursion, list_all}, Option.{option_and_then}, Str.{bytes_eq}}
use Rattle.t1_font.specs.{declared.fault.ReadFault.{ReadFault}, FontValue.{FontValue}}
use Rattle.t1_document.specs.{declared.joins.Outcome.{Outcome}, declared.joins.Outcome.TheVariants.{Same, Joined, Stays}}
use Rattle.t1_document.specs.Documents.{Place, Document, document_of}
use Rattle.t1_document.specs.Rewriting.{NewTexts, can_stand, is_barred, is_refused, standing, levelled, with_new, renewed}
use Rattle.t1_document.specs.Joins.{Outcomes, AreOutcomes, places_of_all, places_under, fonts_of_places, new_texts, text_for_places, ComeTo, OfPlaces, OfFonts, IsSame, LevelsTo}
use Rattle.t1_document.specs.{Laws.{HasNew, NoneRefused}, JoinLaws.{NewTextsStand, LevelledAgain}}
use Rattle.t1_document.proofs.{OwnTexts.{Own, own_texts_stand, own_texts_stay}, Rewritten.{same_bytes, rewritten_is_read, level_renews}}
use Rattle.t1_document.proofs.{OneOutcome.{same_text, one_text_for}, Bare.{bare, to_bare}}

-- ---- lists

all_append : {X : Type 0} (P : X → Type 0) (xs ys : List X) → AllByRecursion P xs → AllByRecursion P ys → AllByRecursion P (xs ++ ys)
all_append P [] ys a b = b
all_append P (x ∷ xs) ys a b = (a.0, all_append P xs ys a.1 b)

all_parts : {X : Type 0} (P : X → Type 0) (xs ys : List X) → AllByRecursion P (xs ++ ys) → AllByRecursion P xs × AllByRecursion P ys
all_parts P [] ys h = (tt, h)
all_parts P (x ∷ xs) ys h = let rest = all_parts P xs ys h.1 in ((h.0, rest.0), rest.1)

-- what holds of the places of all documents holds of those of each
each_document : (P : Place → Type 0) (documents : List (List ℕ)) → AllByRecursion P (places_of_all documents) →
    AllByRecursion (λ d. AllByRecursion P (document_of d).places) documents
each_document P [] h = tt
each_document P (d ∷ ds) h = let parts = all_parts P (document_of d).places (places_of_all ds) h in (parts.0, each_document P ds parts.1)

-- what holds of the places of each name holds of each place and its name
pub from_names : (P : List ℕ → Place → Type 0) (ps : List Place) → ((name : List ℕ) → AllByRecursion (P name) (places_under name ps)) →
    AllByRecursion (λ p. P p.name p) ps
from_names P [] h = tt
from_names P (p ∷ ps) h = (
  (subst (λ (b : Bool). AllByRecursion (P p.name) (cond b (p ∷ places_under p.name ps) (places_under p.name ps))) (same_bytes p.name) (h p.name)).0,
  from_names P ps (λ name. behind name (bytes_eq p.name name) (h name)),
)
  where
    behind : (name : List ℕ) (b : Bool) → AllByRecursion (P name) (cond b (p ∷ places_under name ps) (places_under name ps)) →
        AllByRecursion (P name) (places_under name ps)
    behind name true k = k.1
    behind name false k = k

-- ---- what places get can stand there

pub own_of_all : (documents : List (List ℕ)) → AllByRecursion Own (places_of_all documents)
own_of_all [] = tt
own_of_all (d ∷ ds) = all_append Own (document_of d).places (places_of_all ds) (own_texts_stand d) (own_of_all ds)

-- a place that can have its own text can have this one
abbrev pub MayHave : List ℕ → Place → Type 0
MayHave text p = Own p → can_stand text p ≡ true

-- a text that places have can stand at each
same_stand : (text : List ℕ) (ps : List Place) → list_all (λ q. bytes_eq text q.text) ps ≡ true → AllByRecursion (MayHave text) ps
same_stand text [] h = tt
same_stand text (p ∷ ps) h =
    let parts = and_parts (bytes_eq text p.text) (list_all (λ q. bytes_eq text q.text) ps) h in (
      λ own. subst (λ (t : List ℕ). can_stand t p ≡ true) (sym ((bytes_eq-Decides text p.text).0 parts.0)) own,
      same_stand text ps parts.1,
    )

listed_stand : (text : List ℕ) (ps : List Place) → list_all (can_stand text) ps ≡ true → AllByRecursion (MayHave text) ps
listed_stand text [] h = tt
listed_stand text (p ∷ ps) h =
    let parts = and_parts (can_stand text p) (list_all (can_stand text) ps) h in ((λ own. parts.0), listed_stand text ps parts.1)

module _ (name : List ℕ) (p : Place) (ps : List Place) where
  abbrev Stand : List ℕ → Type 0
  Stand text = AllByRecursion (MayHave text) (p ∷ ps)

  of_fonts : (r : Result (List FontValue) ReadFault) (o : Outcome) (text : List ℕ) → OfFonts name (p ∷ ps) r o → text_for_places o ≡ Some text → Stand text
  of_fonts (Err fault) o text h e = absurd (none-some text (ap text_for_places (sym h) ∙ e))
  of_fonts (Ok fs) (Same t) text h e = absurd h
  of_fonts (Ok fs) (Stays why) text h e = absurd (none-some text e)
  of_fonts (Ok fs) (Joined t) text h e = subst Stand (same_Some t.items text e) (listed_stand t.items (p ∷ ps) h.1)

  of_places : (b : Bool) → list_all (λ q. bytes_eq p.text q.text) ps ≡ b → (o : Outcome) (text : List ℕ) → OfPlaces name (p ∷ ps) p.text b o →
      text_for_places o ≡ Some text → Stand text
  of_places true all o text h e = subst Stand (same_Some p.text text (sym (same_text p.text o h) ∙ e)) ((λ own. own), same_stand p.text ps all)
  of_places false all o text h e = of_fonts (fonts_of_places (p ∷ ps)) o text h e

-- what the places of a name get can stand at each
stand_for : (name : List ℕ) (ps : List Place) (o : Option Outcome) → ComeTo name ps o →
    AllByRecursion (λ p. (text : List ℕ) → option_and_then text_for_places o ≡ Some text → MayHave text p) ps
stand_for name [] o h = tt
stand_for name (p ∷ ps) None h = absurd h
stand_for name (p ∷ ps) (Some o) h = each (p ∷ ps) (λ text e. of_places name p ps (list_all (λ q. bytes_eq p.text q.text) ps) refl o text h e)
  where
    each : (qs : List Place) → ((text : List ℕ) → text_for_places o ≡ Some text → AllByRecursion (MayHave text) qs) →
        AllByRecursion (λ q. (text : List ℕ) → text_for_places o ≡ Some text → MayHave text q) qs
    each [] k = tt
    each (q ∷ qs) k = (λ text e. (k text e).0, each qs (λ text e. (k text e).1))

-- each place may have the new text of its name
pub all_may_have : (ps : List Place) (outcomes : Outcomes) → AreOutcomes ps outcomes →
    AllByRecursion (λ p. (text : List ℕ) → new_texts outcomes p.name ≡ Some text → MayHave text p) ps
all_may_have ps outcomes are =
    from_names (λ name p. (text : List ℕ) → new_texts outcomes name ≡ Some text → MayHave text p) ps
    (λ name. stand_for name (places_under name ps) (outcomes name) (are name))

-- a place that can have the new text of its name
abbrev pub CanHave : NewTexts → Place → Type 0
CanHave new p = (text : List ℕ) → new p.name ≡ Some text → can_stand text p ≡ true

all_can_have : (ps : List Place) (outcomes : Outcomes) → AllByRecursion Own ps → AreOutcomes ps outcomes → AllByRecursion (CanHave (new_texts outcomes)) ps
all_can_have ps outcomes own are = each ps own (all_may_have ps outcomes are)
  where
    each : (qs : List Place) → AllByRecursion Own qs → AllByRecursion (λ p. (text : List ℕ) → new_texts outcomes p.name ≡ Some text → MayHave text p) qs →
        AllByRecursion (CanHave (new_texts outcomes)) qs
    each [] own h = tt
    each (q ∷ qs) own h = (λ text e. h.0 text e own.0, each qs own.1 h.1)

unrefused : (new : NewTexts) (ps : List Place) → AllByRecursion (CanHave new) ps → (name : List ℕ) → is_refused new ps name ≡ false
unrefused new [] h name = refl
unrefused new (p ∷ ps) h name =
    ap (λ (b : Bool). (bytes_eq name p.name && b) || is_refused new ps name) (unbarred (new p.name) refl)
    ∙ (ap (λ (b : Bool). b || is_refused new ps name) (and-false (bytes_eq name p.name)) ∙ unrefused new ps h.1 name)
  where
    unbarred : (o : Option (List ℕ)) → new p.name ≡ o → is_barred o p ≡ false
    unbarred None e = refl
    unbarred (Some text) e = ap not (h.0 text e)

each_unrefused : (new : NewTexts) (documents : List (List ℕ)) → AllByRecursion (λ d. AllByRecursion (CanHave new) (document_of d).places) documents →
    AllByRecursion (NoneRefused new) documents
each_unrefused new [] h = tt
each_unrefused new (d ∷ ds) h = (unrefused new (document_of d).places h.0, each_unrefused new ds h.1)

pub new_texts_stand : NewTextsStand
new_texts_stand documents outcomes are =
    let new = new_texts outcomes in
    each_unrefused new documents
    (each_document (CanHave new) documents (all_can_have (places_of_all documents) outcomes (own_of_all documents) are))

-- new texts that are not refused all stand
all_standing : (new : NewTexts) (ps : List Place) → ((name : List ℕ) → is_refused new ps name ≡ false) → standing new ps ≡ new
all_standing new ps h = λ i name. ap (λ (b : Bool). cond b None (new name)) (h name) i

-- ---- what is left gets no other text

-- each place has this text
abbrev pub HaveText : List ℕ → List Place → Type 0
HaveText text ps = AllByRecursion (λ p. p.text ≡ text) ps

pub have_same : (text other : List ℕ) (ps : List Place) → text ≡ other → HaveText other ps → list_all (λ q. bytes_eq text q.text) ps ≡ true
have_same text other [] e h = refl
have_same text other (p ∷ ps) e h =
    ap (λ (b : Bool). b && list_all (λ q. bytes_eq text q.text) ps) ((bytes_eq-Decides text p.text).1 (e ∙ sym h.0)) ∙ have_same text other ps e h.1

-- places of one text get no other
pub one_had : (name t : List ℕ) (ps : List Place) → HaveText t ps → (o : Option Outcome) (text : List ℕ) → ComeTo name ps o →
    option_and_then text_for_places o ≡ Some text → t ≡ text
one_had name t [] all o text h e = absurd (none-some text (ap (option_and_then text_for_places) (sym h) ∙ e))
one_had name t (p ∷ ps) all None text h e = absurd h
one_had name t (p ∷ ps) all (Some o) text h e =
    let same : IsSame p.text o = subst (λ (b : Bool). OfPlaces name (p ∷ ps) p.text b o) (have_same p.text t ps all.0 all.1) h in
    sym all.0 ∙ same_Some p.text text (sym (same_text p.text o same) ∙ e)

module _ (old left : List Place) (a b : Outcomes) (are_old : AreOutcomes old a) (are_left : AreOutcomes left b)
    (have : (name text : List ℕ) → new_texts a name ≡ Some text → HaveText text (places_under name left))
    (stay : (name : List ℕ) → new_texts a name ≡ None → map bare (places_under name left) ≡ map bare (places_under name old)) where
  -- where places got their new texts, and the others stayed, they get no other
  pub among : (name text : List ℕ) → new_texts b name ≡ Some text → new_texts a name ≡ Some text
  among name text e = by_old (new_texts a name) refl
    where
      by_old : (o : Option (List ℕ)) → new_texts a name ≡ o → new_texts a name ≡ Some text
      by_old None h =
          let there = to_bare name (places_under name left) (b name) (are_left name) in
          let same : new_texts b name ≡ new_texts a name = one_text_for name (map bare (places_under name old)) (b name) (a name)
          (subst (λ (ps : List Place). ComeTo name ps (b name)) (stay name h) there)
          (to_bare name (places_under name old) (a name) (are_old name)) in
          sym same ∙ e
      by_old (Some t) h = h ∙ ap (λ (u : List ℕ). Some u) (one_had name t (places_under name left) (have name t h) (b name) text (are_left name) e)

-- ---- levelled

module _ (new : NewTexts) where
  -- the places of documents that were levelled
  levelled_places : (documents : List (List ℕ)) → AllByRecursion (NoneRefused new) documents →
      places_of_all (map (levelled new) documents) ≡ map (renewed new) (places_of_all documents)
  levelled_places [] h = refl
  levelled_places (d ∷ ds) h =
      let ps = (document_of d).places in
      let own : (document_of (levelled new d)).places ≡ map (renewed new) ps =
      ap (λ (x : Document). x.places) (rewritten_is_read new d ∙ level_renews new (document_of d))
      ∙ ap (λ (n : NewTexts). map (renewed n) ps) (all_standing new ps h.0) in
      (λ i. own i ++ levelled_places ds h.1 i) ∙ sym (map-append (renewed new) ps (places_of_all ds))

  renewed_have : (ps : List Place) (name text : List ℕ) → new name ≡ Some text → HaveText text (places_under name (map (renewed new) ps))
  renewed_have [] name text e = tt
  renewed_have (p ∷ ps) name text e = by_new (new p.name) refl (renewed_have ps name text e)
    where
      by_name : (q : Place) → (bytes_eq q.name name ≡ true → q.text ≡ text) → HaveText text (places_under name (map (renewed new) ps)) →
          (b : Bool) → bytes_eq q.name name ≡ b →
          HaveText text (cond b (q ∷ places_under name (map (renewed new) ps)) (places_under name (map (renewed new) ps)))
      by_name q h more true k = (h k, more)
      by_name q h more false k = more

      by_new : (o : Option (List ℕ)) → new p.name ≡ o → HaveText text (places_under name (map (renewed new) ps)) →
          HaveText text (places_under name (with_new o p ∷ map (renewed new) ps))
      by_new None k more =
          by_name p (λ same. absurd (none-some text (sym k ∙ (ap new ((bytes_eq-Decides p.name name).0 same) ∙ e)))) more (bytes_eq p.name name) refl
      by_new (Some t) k more = by_name (record p { text = t })
          (λ same. same_Some t text (sym k ∙ (ap new ((bytes_eq-Decides p.name name).0 same) ∙ e))) more (bytes_eq p.name name) refl

  renewed_stay : (ps : List Place) (name : List ℕ) → new name ≡ None → map bare (places_under name (map (renewed new) ps)) ≡ map bare (places_under name ps)
  renewed_stay [] name e = refl
  renewed_stay (p ∷ ps) name e = by_new (new p.name) refl (renewed_stay ps name e)
    where
      by_name : (q : Place) → (bytes_eq p.name name ≡ true → bare q ≡ bare p) →
          map bare (places_under name (map (renewed new) ps)) ≡ map bare (places_under name ps) → (b : Bool) → bytes_eq p.name name ≡ b →
          map bare (cond b (q ∷ places_under name (map (renewed new) ps)) (places_under name (map (renewed new) ps)))
          ≡ map bare (cond b (p ∷ places_under name ps) (places_under name ps))
      by_name q h others true k = λ i. h k i ∷ others i
      by_name q h others false k = others

      by_new : (o : Option (List ℕ)) → new p.name ≡ o → map bare (places_under name (map (renewed new) ps)) ≡ map bare (places_under name ps) →
          map bare (places_under name (with_new o p ∷ map (renewed new) ps)) ≡ map bare (places_under name (p ∷ ps))
      by_new None k others = by_name p (λ same. refl) others (bytes_eq p.name name) refl
      by_new (Some t) k others = by_name (record p { text = t })
          (λ same. absurd (none-some t (sym e ∙ (ap new (sym ((bytes_eq-Decides p.name name).0 same)) ∙ k)))) others (bytes_eq p.name name) refl

  module _ (more : NewTexts) (inside : (name text : List ℕ) → more name ≡ Some text → new name ≡ Some text) where
    -- each place that was levelled has its new text, or there is none
    has_new : (p : Place) → HasNew more (renewed new p)
    has_new p = by_new (new p.name) refl
      where
        by_more : (q : Place) → ((text : List ℕ) → new q.name ≡ Some text → q.text ≡ text) → (o : Option (List ℕ)) → more q.name ≡ o → HasNew more q
        by_more q h None e = inl e
        by_more q h (Some text) e = inr (e ∙ ap (λ (u : List ℕ). Some u) (sym (h text (inside q.name text e))))

        by_new : (o : Option (List ℕ)) → new p.name ≡ o → HasNew more (with_new o p)
        by_new None k = by_more p (λ text e. absurd (none-some text (sym k ∙ e))) (more p.name) refl
        by_new (Some t) k = by_more (record p { text = t }) (λ text e. same_Some t text (sym k ∙ e)) (more p.name) refl

    all_have_new : (ps : List Place) → AllByRecursion (HasNew more) (map (renewed new) ps)
    all_have_new [] = tt
    all_have_new (p ∷ ps) = (has_new p, all_have_new ps)

all_stay : (more : NewTexts) (documents : List (List ℕ)) → AllByRecursion (λ d. AllByRecursion (HasNew more) (document_of d).places) documents →
    map (levelled more) documents ≡ documents
all_stay more [] h = refl
all_stay more (d ∷ ds) h = λ i. own_texts_stay more d h.0 i ∷ all_stay more ds h.1 i

-- documents that were levelled so
levels_again : (documents : List (List ℕ)) (a : Outcomes) → AreOutcomes (places_of_all documents) a → (out b : List (List ℕ)) →
    out ≡ map (levelled (new_texts a)) documents → LevelsTo out b → b ≡ out
levels_again documents a are out b is k =
    let new = new_texts a in
    let more = new_texts k.0 in
    let old = places_of_all documents in
    let left = map (renewed new) old in
    let read : places_of_all out ≡ left = ap places_of_all is ∙ levelled_places new documents (new_texts_stand documents a are) in
    let are_left : AreOutcomes left k.0 = subst (λ (ps : List Place). AreOutcomes ps k.0) read k.1 in
    let inside = among old left a k.0 are are_left (renewed_have new old) (renewed_stay new old) in
    let have : AllByRecursion (HasNew more) (places_of_all out) = subst (AllByRecursion (HasNew more)) (sym read) (all_have_new new more inside old) in
    k.2 ∙ all_stay more out (each_document (HasNew more) out have)

pub levelled_again : LevelledAgain
levelled_again documents a b h k = levels_again documents h.0 h.1 a b h.2 k
