-- The loops over places that are joined.
use Rattle.std.proofs.Common.{◌≡◌, ◌<◌, ◌≤◌, ◌+◌, ℕ, Bool, true, false, cond, List, [], ◌∷◌, ◌++◌, length, get_or, take, drop, map, Option, Some, None, Result, Ok, Err, refl, sym, ap, ◌∙◌, subst}
use Rattle.std.proofs.{Common.{◌⊎◌, inl, inr, is_some, Bor}, lemmas.Bool.{cases_Bool, cond-true, cond-false, and_parts, true≢false}, lemmas.List.{take_more, map-append, drop_more, drop_all}}
use Rattle.std.proofs.{lemmas.List.Folds.{list_any-append}, Math.Bool.{or-false}, lemmas.Option.{none-some}, lemmas.Slice.Eq.{bytes_eq-Decides}}
use Rattle.std.specs.{Prelude.{◌&&◌, ◌||◌, not}, Global.{Vec}, List.{list_any, list_all}, Option.{option_copied}, Str.{bytes_eq}}
use Rattle.t1_document.proofs.WriteLoop.{same_test}
use Rattle.t1_document.specs.{declared.documents.Place.{Place as CodePlace}, declared.joins.Outcome.{Outcome}, Documents.{Place}, Rewriting.{NewTexts, can_stand, can_stand_before, is_like}}
use Rattle.t1_document.specs.{Joins.{lacks_name, places_under, ComeTo, AreOutcomes}, declared.joins.Joins.{Joins}, declared.texts.Texts.{Texts}, Texts.{text_in}, Groups.{places_of, outcome_in}}
use Rattle.t1_document.specs.Views.{place_view}
use Rattle.t1_font.specs.{declared.fault.ReadFault.{ReadFault}, FontValue.{FontValue}}

-- ---- the fonts of places

-- fonts before those that are read, or why these are not
abbrev pub fonts_before : List FontValue → Result (List FontValue) ReadFault → Result (List FontValue) ReadFault
fonts_before fs (Ok gs) = Ok (fs ++ gs)
fonts_before fs (Err e) = Err e

-- ---- places by names

module _ (name : List ℕ) (before between after : List ℕ → Option (Vec CodePlace)) (v : Vec CodePlace) (p : Place) where
  -- a place is added where the vector of its name was taken out, grew and was put back
  pub place_added : ((other : List ℕ) → between other ≡ cond (bytes_eq name other) None (before other)) →
      ((other : List ℕ) → after other ≡ cond (bytes_eq name other) (Some v) (between other)) →
      map place_view v.items ≡ places_of (before name) ++ p ∷ [] → (other : List ℕ) →
      places_of (after other) ≡ cond (bytes_eq name other) (places_of (before other) ++ p ∷ []) (places_of (before other))
  place_added out back grown other = elim (cases_Bool (bytes_eq name other)) [
    | inl t ↦
        let same : name ≡ other = (bytes_eq-Decides name other).0 t in
        ap places_of (back other ∙ cond-true (bytes_eq name other) (Some v) (between other) t)
        ∙ (grown
        ∙ (ap (λ (n : List ℕ). places_of (before n) ++ p ∷ []) same
        ∙ sym (cond-true (bytes_eq name other) (places_of (before other) ++ p ∷ []) (places_of (before other)) t)))
    | inr t ↦
        ap places_of (back other ∙ (cond-false (bytes_eq name other) (Some v) (between other) t
        ∙ (out other ∙ cond-false (bytes_eq name other) None (before other) t)))
        ∙ sym (cond-false (bytes_eq name other) (places_of (before other) ++ p ∷ []) (places_of (before other)) t)
  ]

-- ---- what each name comes to

-- where a place stands
pub place_there : (ps : List CodePlace) (i : ℕ) (p : CodePlace) → i < length ps → p ≡ get_or ps i p → drop i ps ≡ p ∷ drop (i + 1) ps
place_there ps i p lt is = drop_more ps i p lt ∙ ap (λ (q : CodePlace). q ∷ drop (i + 1) ps) (sym is)

-- The names of so many places have outcomes, and these are right: of a name without one, all places are left.
pub record Come (ps : List CodePlace) (i : ℕ) (j : Joins) : Type 0 where
  pub right : (name : List ℕ) → (outcome_in j name ≡ None) ⊎ ComeTo name (places_under name (map place_view ps)) (outcome_in j name)
  pub left : (name : List ℕ) → outcome_in j name ≡ None → places_under name (map place_view (drop i ps)) ≡ places_under name (map place_view ps)

-- at the start no name has one
pub none_come : (ps : List CodePlace) (j : Joins) → ((name : List ℕ) → outcome_in j name ≡ None) → Come ps 0 j
none_come ps j none = record { right = λ name. inl (none name); left = λ name e. refl }

-- at the end each name of a place has one
pub all_come : (ps : List CodePlace) (i : ℕ) (j : Joins) → length ps ≤ i → Come ps i j → AreOutcomes (map place_view ps) (outcome_in j)
all_come ps i j le c name = elim (c.right name) [
  | inl none ↦
      let nothing : [] ≡ places_under name (map place_view ps) =
      ap (λ (qs : List CodePlace). places_under name (map place_view qs)) (sym (drop_all i ps le)) ∙ c.left name none in
      subst (λ (qs : List Place). ComeTo name qs (outcome_in j name)) nothing none
  | inr h ↦ h
]

module _ (ps : List CodePlace) (i : ℕ) (p : CodePlace) (there : drop i ps ≡ p ∷ drop (i + 1) ps) where
  -- a place of another name is none of these
  other_left : (name : List ℕ) → bytes_eq p.name.now name ≡ false →
      places_under name (map place_view (drop i ps)) ≡ places_under name (map place_view (drop (i + 1) ps))
  other_left name f = ap (λ (qs : List CodePlace). places_under name (map place_view qs)) there
      ∙ cond-false (bytes_eq p.name.now name) (place_view p ∷ places_under name (map place_view (drop (i + 1) ps)))
      (places_under name (map place_view (drop (i + 1) ps))) f

  -- it is one of its own
  own_left : places_under p.name.now (map place_view (drop i ps)) ≡ place_view p ∷ places_under p.name.now (map place_view (drop (i + 1) ps))
  own_left = ap (λ (qs : List CodePlace). places_under p.name.now (map place_view qs)) there
      ∙ cond-true (bytes_eq p.name.now p.name.now) (place_view p ∷ places_under p.name.now (map place_view (drop (i + 1) ps)))
      (places_under p.name.now (map place_view (drop (i + 1) ps))) ((bytes_eq-Decides p.name.now p.name.now).1 refl)

  -- its name has an outcome
  pub had : (j : Joins) → is_some (outcome_in j p.name.now) ≡ true → Come ps i j → Come ps (i + 1) j
  had j some c = record {
    right = c.right;
    left = λ name none. elim (cases_Bool (bytes_eq p.name.now name)) [
      | inl t ↦
          let same : p.name.now ≡ name = (bytes_eq-Decides p.name.now name).0 t in
          absurd (true≢false (sym some ∙ ap (λ (o : Option Outcome). is_some o) (ap (outcome_in j) same ∙ none)))
      | inr f ↦ sym (other_left name f) ∙ c.left name none
    ];
  }

  -- its name gets one
  pub gets : (j k : Joins) (o : Outcome) → outcome_in j p.name.now ≡ None → ComeTo p.name.now (places_under p.name.now (map place_view ps)) (Some o) →
      ((name : List ℕ) → outcome_in k name ≡ cond (bytes_eq p.name.now name) (Some o) (outcome_in j name)) → Come ps i j → Come ps (i + 1) k
  gets j k o none right put c = record {
    right = λ name. elim (cases_Bool (bytes_eq p.name.now name)) [
      | inl t ↦
          let same : p.name.now ≡ name = (bytes_eq-Decides p.name.now name).0 t in
          let is : Some o ≡ outcome_in k name = sym (put name ∙ cond-true (bytes_eq p.name.now name) (Some o) (outcome_in j name) t) in
          inr (subst (λ (q : Option Outcome). ComeTo name (places_under name (map place_view ps)) q) is
          (subst (λ (n : List ℕ). ComeTo n (places_under n (map place_view ps)) (Some o)) same right))
      | inr f ↦
          let is : outcome_in j name ≡ outcome_in k name = sym (put name ∙ cond-false (bytes_eq p.name.now name) (Some o) (outcome_in j name) f) in
          subst (λ (q : Option Outcome). (q ≡ None) ⊎ ComeTo name (places_under name (map place_view ps)) q) is (c.right name)
    ];
    left = λ name empty. elim (cases_Bool (bytes_eq p.name.now name)) [
      | inl t ↦ absurd (none-some o (sym empty ∙ (put name ∙ cond-true (bytes_eq p.name.now name) (Some o) (outcome_in j name) t)))
      | inr f ↦
          let is : outcome_in j name ≡ None = sym (put name ∙ cond-false (bytes_eq p.name.now name) (Some o) (outcome_in j name) f) ∙ empty in
          sym (other_left name f) ∙ c.left name is
    ];
  }

  -- it can't come to nothing
  pub never : (j : Joins) → outcome_in j p.name.now ≡ None → ComeTo p.name.now (places_under p.name.now (map place_view ps)) None → Come ps i j → ⊥
  never j none right c =
      subst (λ (qs : List Place). ComeTo p.name.now qs None) (sym (c.left p.name.now none) ∙ own_left) right

-- in outcomes that are the same
pub come_same : (ps : List CodePlace) (i : ℕ) (j k : Joins) → k ≡ j → Come ps i j → Come ps i k
come_same ps i j k e c = subst (Come ps i) (sym e) c

-- what is lent of nothing, and of something
pub lent_none : {A : Type 0} (o : Option (Bor A)) (b : Bool) → is_some o ≡ not b → b ≡ true → option_copied o ≡ None
lent_none None b e t = refl
lent_none (Some x) b e t = absurd (true≢false (e ∙ ap not t))

pub lent_some : {A : Type 0} (o : Option (Bor A)) (b : Bool) → is_some o ≡ not b → b ≡ false → is_some (option_copied o) ≡ true
lent_some None b e f = absurd (true≢false (sym (e ∙ ap not f)))
lent_some (Some x) b e f = refl

-- ---- new texts

-- so many places have put their texts
abbrev pub Puts : List CodePlace → ℕ → NewTexts → Texts → Type 0
Puts ps i new t = (name : List ℕ) → text_in t name ≡ cond (lacks_name name (map place_view (take i ps))) None (new name)

-- one of the places so far has the name
abbrev among : List CodePlace → ℕ → List ℕ → Bool
among ps i name = list_any (λ p. bytes_eq name p.name) (map place_view (take i ps))

among_more : (ps : List CodePlace) (i : ℕ) (d : CodePlace) → i < length ps → (name : List ℕ) →
    among ps (i + 1) name ≡ (among ps i name || bytes_eq name (get_or ps i d).name.now)
among_more ps i d lt name =
    let test : Place → Bool = λ q. bytes_eq name q.name in
    let p = get_or ps i d in
    ap (λ (qs : List CodePlace). list_any test (map place_view qs)) (take_more ps i d lt)
    ∙ (ap (list_any test) (map-append place_view (take i ps) (p ∷ []))
    ∙ (list_any-append test (map place_view (take i ps)) (place_view p ∷ [])
    ∙ ap (λ (b : Bool). among ps i name || b) (or-false (bytes_eq name p.name.now))))

-- with the text of its name, or without one
put_step : (b e : Bool) (old more value : Option (List ℕ)) → old ≡ cond (not b) None value → (e ≡ true → more ≡ value) → (e ≡ false → more ≡ old) →
    more ≡ cond (not (b || e)) None value
put_step true true old more value h own other = own refl
put_step true false old more value h own other = other refl ∙ h
put_step false true old more value h own other = own refl
put_step false false old more value h own other = other refl ∙ h

pub text_put : (ps : List CodePlace) (i : ℕ) (d : CodePlace) (new : NewTexts) (t u : Texts) (text : List ℕ) → i < length ps →
    Some text ≡ new (get_or ps i d).name.now →
    ((name : List ℕ) → text_in u name ≡ cond (bytes_eq (get_or ps i d).name.now name) (Some text) (text_in t name)) → Puts ps i new t → Puts ps (i + 1) new u
text_put ps i d new t u text lt some put so_far name =
    let p = get_or ps i d in
    put_step (among ps i name) (bytes_eq name p.name.now) (text_in t name) (text_in u name) (new name) (so_far name)
    (λ own.
    put name ∙ (cond-true (bytes_eq p.name.now name) (Some text) (text_in t name) (same_test p.name.now name ∙ own)
    ∙ (some ∙ ap new (sym ((bytes_eq-Decides name p.name.now).0 own)))))
    (λ other. put name ∙ cond-false (bytes_eq p.name.now name) (Some text) (text_in t name) (same_test p.name.now name ∙ other))
    ∙ ap (λ (b : Bool). cond (not b) None (new name)) (sym (among_more ps i d lt name))

pub none_put : (ps : List CodePlace) (i : ℕ) (d : CodePlace) (new : NewTexts) (t : Texts) → i < length ps →
    None ≡ new (get_or ps i d).name.now → Puts ps i new t → Puts ps (i + 1) new t
none_put ps i d new t lt none so_far name =
    let p = get_or ps i d in
    put_step (among ps i name) (bytes_eq name p.name.now) (text_in t name) (text_in t name) (new name) (so_far name)
    (λ own.
    let nothing : new name ≡ None = ap new ((bytes_eq-Decides name p.name.now).0 own) ∙ sym none in
    so_far name ∙ (ap (cond (not (among ps i name)) None) nothing ∙ (either (not (among ps i name)) ∙ sym nothing)))
    (λ other. refl)
    ∙ ap (λ (b : Bool). cond (not b) None (new name)) (sym (among_more ps i d lt name))
  where
    either : (b : Bool) → cond {A = Option (List ℕ)} b None None ≡ None
    either true = refl
    either false = refl

-- in texts that are the same
pub puts_same : (ps : List CodePlace) (i : ℕ) (new : NewTexts) (t u : Texts) → u ≡ t → Puts ps i new t → Puts ps i new u
puts_same ps i new t u e h name = ap (λ (v : Texts). text_in v name) e ∙ h name

-- ---- a text at places

-- a text can stand at a place, if there is one
abbrev pub StandsAt : List ℕ → Option Place → Type 0
StandsAt text None = Unit {0}
StandsAt text (Some p) = can_stand text p ≡ true

-- so it can at a place that is like it
pub like_stands : (text : List ℕ) (o : Option Place) (q : Place) → is_like o q ≡ true → StandsAt text o → can_stand text q ≡ true
like_stands text None q e h = absurd (true≢false (sym e))
like_stands text (Some p) q e h =
    let parts = and_parts (bytes_eq p.name q.name) (bytes_eq p.rest q.rest) e in
    let name = (bytes_eq-Decides p.name q.name).0 parts.0 in
    let rest = (bytes_eq-Decides p.rest q.rest).0 parts.1 in
    sym (λ i. can_stand_before text (name i) (rest i)) ∙ h

-- one place more, at which it can stand
pub stands_more : (text : List ℕ) (ps : List CodePlace) (i : ℕ) (d : CodePlace) → i < length ps → can_stand text (place_view (get_or ps i d)) ≡ true →
    list_all (can_stand text) (map place_view (drop i ps)) ≡ list_all (can_stand text) (map place_view ps) →
    (list_all (can_stand text) (map place_view (drop (i + 1) ps)) ≡ list_all (can_stand text) (map place_view ps))
    × StandsAt text (Some (place_view (get_or ps i d)))
stands_more text ps i d h stands was =
    let left : Bool = list_all (can_stand text) (map place_view (drop (i + 1) ps)) in (
      sym (ap (λ (qs : List CodePlace). list_all (can_stand text) (map place_view qs)) (drop_more ps i d h) ∙ ap (λ (b : Bool). b && left) stands) ∙ was,
      stands,
    )
