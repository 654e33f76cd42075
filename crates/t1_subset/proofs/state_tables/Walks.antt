-- Merging fonts from left to right, by their states and references.
use Rattle.std.proofs.Common.{◌≡◌, ◌<◌, ◌≤◌, ◌+◌, ℕ, zero, suc, inl, inr, cond, List, [], ◌∷◌, ◌++◌, map, length, take, drop, get_or, Bor, refl, sym, ◌∙◌, ap, subst, arith, add-one, Some, None}
use Rattle.std.proofs.lemmas.List.{length-map, length-append, map-append, take_more}
use Rattle.std.specs.List.{AllByRecursion}
use Rattle.t1_join.{specs.Groupings.{Grouping, one, from_left}, proofs.OrderLemmas.{all_of_both}}
use Rattle.t1_font.specs.{FontValue.{FontValue}, IsFont.{IsFont}}
use Rattle.t1_algebra.specs.{Profile.{profile}, States.{Join, joined_font}, StateTables.{StatesValue, FontStatesAgree, FontStatesJoin, states_of}, StateLaws.{states_laws}}
use Rattle.t1_algebra.specs.{Conflicts.{OverLimit, states_conflict, conflict, shell_conflict}, Searches.{found}, Groupings.{Merges}, Merges.{ComesTo}}
use Rattle.t1_algebra.proofs.{Conflicts.{no_conflict}, FontStates.{join_exactly, states_join}, Fonts.{font_within, joined_is_font}, ManyMerges.{left_snoc}}
use Rattle.t1_subset.specs.{declared.references.References.{References}, declared.conflict.Conflict.{Conflict as Refusal}, Refusals.{Tells}, References.{AreReferencesOf, AreNoted, fonts_of}}
use Rattle.t1_subset.specs.{Clashes.{AreStatesOf, AreReferences}, Merger.{NotMerged, FirstShare}}
use Rattle.t1_subset.proofs.{state_tables.Conflicts.{over}, state_tables.FontReferences.{ReferencesSoFar, first_references, both_callers, more_references}}

-- ---- two fonts

module _ (s t : StatesValue) (f g : FontValue) (h : AreStatesOf s t f g) where
  -- if the states of two fonts join, the fonts do, and to a font of the joined states
  pub joins_to : (z : StatesValue) → FontStatesJoin s t z → Join profile f g × (z ≡ states_of profile (joined_font profile f g))
  joins_to z j =
      let k : FontStatesJoin (states_of profile f) (states_of profile g) z =
      subst (λ (t : StatesValue). FontStatesJoin (states_of profile f) t z) h.other (subst (λ (s : StatesValue). FontStatesJoin s t z) h.own j) in
      let join = (join_exactly profile f g (font_within f h.own_font)).0 (z, k) in
      (join, states_laws.one_answer _ _ _ _ k (states_join profile f g join))

  -- if states without a conflict do not agree, the limits refuse the fonts
  pub limits_refuse : states_conflict profile f g ≡ None → ¬ FontStatesAgree s t → conflict profile f g ≡ Some OverLimit
  limits_refuse free apart = over profile f g free (λ within.
      let join = (no_conflict profile f g).0 (λ i. found (λ c. c) (free i) (cond (within i) None (Some OverLimit))) in
      let agree = (join_exactly profile f g (font_within f h.own_font)).1 join in
      apart (subst (λ (s : StatesValue). FontStatesAgree s t) (sym h.own)
      (subst (λ (t : StatesValue). FontStatesAgree (states_of profile f) t) (sym h.other) agree)))

-- two fonts come to their join
pub two_come : (f g j : FontValue) → ComesTo (f ∷ g ∷ []) j → Join profile f g × (j ≡ joined_font profile f g)
two_come f g j h = (
  subst (Join profile f) (sym h.3) (subst (λ (x : FontValue). Join profile x h.1) (sym h.2) h.4.0),
  sym h.4.1 ∙ (λ i. joined_font profile (sym h.2 i) (sym h.3 i)),
)

-- where the merge of two fonts stops, it stops at the second
stops_second : (f g : FontValue) (e : Refusal) (before : List FontValue) (font : FontValue) (after : List FontValue) (joined : FontValue) →
    g ∷ [] ≡ before ++ font ∷ after → Merges profile (from_left (one f) before) joined → Tells e (conflict profile joined font) → Tells e (conflict profile f g)
stops_second f g e [] font after joined is m t =
    let same : g ≡ font = cc in
    subst (λ (x : FontValue). Tells e (conflict profile f x)) (sym same) (subst (λ (x : FontValue). Tells e (conflict profile x font)) (sym m) t)
stops_second f g e (b ∷ bs) font after joined is m t = absurd (let short = ap length is in omega (arith, short, length-append bs (font ∷ after)))

-- two fonts are refused for their lowest conflict
pub two_refused : (f g : FontValue) (e : Refusal) → NotMerged (f ∷ g ∷ []) e → Tells e (conflict profile f g)
two_refused f g e h = elim h [
  | inl m ↦ subst (λ (e : Refusal). Tells e (conflict profile f g)) (sym m) tt
  | inr s ↦ stops_second f g e s.before s.font s.after s.joined s.list s.merges s.tells
]

-- ---- from left to right

-- the fonts so far come to a font with these states, and their references are its references
pub record JoinedSoFar (cs : List References) (s : StatesValue) : Type 0 where
  pub font : FontValue
  pub comes : ComesTo (fonts_of cs) font
  pub is_font : IsFont font
  pub states : s ≡ states_of profile font
  pub references : ReferencesSoFar cs font

-- what fonts with one more come to, is what those before come to, joined with it
come_before : (fs : List FontValue) (x j : FontValue) → 0 < length fs → ComesTo (fs ++ x ∷ []) j →
    (a : FontValue) × ComesTo fs a × Join profile a x × (joined_font profile a x ≡ j)
come_before [] x j l m = absurd (omega (arith, l))
come_before (f ∷ fs) x j l m =
    let both = subst (λ (t : Grouping FontValue). Merges profile t j) (left_snoc (one f) fs x) m in (
      both.0,
      both.2,
      subst (Join profile both.0) (sym both.3) both.4.0,
      ap (joined_font profile both.0) both.3 ∙ both.4.1,
    )

-- fonts are refused for the conflict with the first that does not join
stops_at : (before : List FontValue) (x : FontValue) (after fs : List FontValue) (j : FontValue) →
    ComesTo before j → before ++ x ∷ after ≡ fs → (e : Refusal) → Tells e (conflict profile j x) → NotMerged fs e
stops_at [] x after fs j h is e t = absurd h
stops_at (f ∷ before) x after fs j h is e t = subst (λ (fs : List FontValue). NotMerged fs e) is
    (inr (record { before = before; font = x; after = after; joined = j; list = refl; merges = h; tells = t }))

-- the fonts of references that are noted are fonts
pub all_fonts : (cs : List References) → AreNoted cs → AllByRecursion IsFont (fonts_of cs)
all_fonts [] h = tt
all_fonts (c ∷ cs) h = (h.0.0, all_fonts cs h.1)

-- ---- a step of the walk

-- the references at a place, which are those of a font, with the references before and after them
pub record Turn (cs : List References) (i : ℕ) : Type 0 where
  pub here : References
  pub is_font : IsFont here.font.now
  pub references : AreReferencesOf here here.font.now
  pub next : take (suc i) cs ≡ take i cs ++ here ∷ []
  pub all : take i cs ++ here ∷ drop (suc i) cs ≡ cs
  pub states : (s : StatesValue) → get_or (map (states_of profile) (fonts_of cs)) i s ≡ states_of profile here.font.now

pub turn : (cs : List References) → AreNoted cs → (i : ℕ) → i < length cs → Turn cs i
turn [] h i l = absurd (omega (arith, l))
turn (c ∷ cs) h zero l = record { here = c; is_font = h.0.0; references = h.0.1; next = refl; all = refl; states = λ s. refl }
turn (c ∷ cs) h (suc i) l =
    let t = turn cs h.1 i (omega (arith, l)) in
    record {
      here = t.here;
      is_font = t.is_font;
      references = t.references;
      next = ap (λ (ds : List References). c ∷ ds) t.next;
      all = ap (λ (ds : List References). c ∷ ds) t.all;
      states = t.states;
    }

-- the references of the first fonts are those of the font that these come to
pub far_by : (cs : List References) → AreNoted cs → (n : ℕ) → n < length cs → (j : FontValue) → ComesTo (fonts_of (take (suc n) cs)) j →
    IsFont j × ReferencesSoFar (take (suc n) cs) j
far_by [] h n l j m = absurd (omega (arith, l))
far_by (c ∷ cs) h zero l j m = (subst IsFont m h.0.0, subst (ReferencesSoFar (c ∷ [])) m (first_references c c.font.now h.0.1))
far_by (c ∷ cs) h (suc n) l j m =
    let t = turn (c ∷ cs) h (suc n) l in
    let fs = fonts_of (take (suc n) (c ∷ cs)) in
    let p = come_before fs t.here.font.now j (omega arith)
    (subst (λ (gs : List FontValue). ComesTo gs j) (ap fonts_of t.next ∙ map-append _ (take (suc n) (c ∷ cs)) (t.here ∷ [])) m) in
    let r = far_by (c ∷ cs) h n (omega (arith, l)) p.0 p.1 in (
      subst IsFont p.3 (joined_is_font profile p.0 t.here.font.now r.0 t.is_font p.2),
      subst (ReferencesSoFar (take (suc (suc n)) (c ∷ cs))) p.3 (subst (λ (ds : List References). ReferencesSoFar ds (joined_font profile p.0 t.here.font.now))
          (sym t.next) (more_references p.0 t.here.font.now (take (suc n) (c ∷ cs)) t.here r.1 t.references p.2.states)),
    )

module _ (cs : List References) (i : ℕ) (t : Turn cs i) (s : StatesValue) (far : JoinedSoFar (take i cs) s) where
  -- the states of the font so far and of the next one
  pub next_states : (ss : List StatesValue) → ss ≡ map (states_of profile) (fonts_of cs) → (u : StatesValue) → u ≡ get_or ss i u →
      AreStatesOf s u far.font t.here.font.now
  next_states ss is u e = record { own_font = far.is_font; other_font = t.is_font; own = far.states; other = e ∙ ap (λ ss. get_or ss i u) is ∙ t.states u }

  next : take i cs ++ t.here ∷ [] ≡ take (i + 1) cs
  next = sym t.next ∙ ap (λ n. take n cs) (sym (add-one i))

  -- the references up to the next font are those of both
  pub next_callers : AreReferences (take (i + 1) cs) far.font t.here.font.now
  next_callers = subst (λ (ds : List References). AreReferences ds far.font t.here.font.now) next
      (both_callers far.font t.here.font.now (take i cs) t.here far.references t.references)

  -- if the next font doesn't join, the fonts are refused
  pub stops : (r : Refusal) → Tells r (conflict profile far.font t.here.font.now) → NotMerged (fonts_of cs) r
  stops = stops_at (fonts_of (take i cs)) t.here.font.now (fonts_of (drop (suc i) cs))
      (fonts_of cs) far.font far.comes (sym (map-append _ (take i cs) (t.here ∷ drop (suc i) cs)) ∙ ap fonts_of t.all)

-- ---- noting

-- the references and the states of these fonts are noted
pub record NotedSoFar (cs : List References) (ss : List StatesValue) (fs : List FontValue) : Type 0 where
  pub fonts : fonts_of cs ≡ fs
  pub noted : AreNoted cs
  pub states : ss ≡ map (states_of profile) fs

-- and those of one more font
pub noted_more : (cs ds : List References) (ss us : List StatesValue) (fs gs : List FontValue) (c : References) (s : StatesValue) (f : FontValue) →
    NotedSoFar cs ss fs → fs ++ f ∷ [] ≡ gs → IsFont f → c.font.now ≡ f → AreReferencesOf c f → s ≡ states_of profile f
    → ds ≡ cs ++ c ∷ [] → us ≡ ss ++ s ∷ [] → NotedSoFar ds us gs
noted_more cs ds ss us fs gs c s f n next w e k h ed eu = record {
  fonts = ap fonts_of ed ∙ map-append _ cs (c ∷ []) ∙ (λ j. n.fonts j ++ e j ∷ []) ∙ next;
  noted = subst AreNoted (sym ed) (all_of_both _ cs (c ∷ []) n.noted ((subst IsFont (sym e) w, subst (AreReferencesOf c) (sym e) k), tt));
  states = eu ∙ (λ j. n.states j ++ h j ∷ []) ∙ sym (map-append (states_of profile) fs (f ∷ [])) ∙ ap (map (states_of profile)) next;
}

-- the fonts that are lent
abbrev pub shown : List (Bor FontValue) → List FontValue
shown bs = map (λ b. b.now) bs

-- one font more of those that are lent
pub shown_more : (bs : List (Bor FontValue)) (i : ℕ) (b : Bor FontValue) → i < length bs → b ≡ get_or bs i b →
    shown (take i bs) ++ b.now ∷ [] ≡ shown (take (i + 1) bs)
shown_more bs i b l at = sym (map-append _ (take i bs) (b ∷ [])) ∙ ap shown (ap (λ (x : Bor FontValue). take i bs ++ x ∷ []) at ∙ sym (take_more bs i b l))

-- the first fonts, lent so far, each of which is a font
pub record LentSoFar (bs : List (Bor FontValue)) (fs : List FontValue) : Type 0 where
  pub fonts : shown bs ≡ fs
  pub are : AllByRecursion IsFont fs

-- and one more font
pub lent_more : (bs cs : List (Bor FontValue)) (b : Bor FontValue) (fs : List FontValue) (i : ℕ) (f : FontValue) → LentSoFar bs (take i fs) →
    i < length fs → f ≡ get_or fs i f → IsFont f → b.now ≡ f → cs ≡ bs ++ b ∷ [] → LentSoFar cs (take (i + 1) fs)
lent_more bs cs b fs i f n l at w e ec =
    let next : take i fs ++ f ∷ [] ≡ take (i + 1) fs = ap (λ (x : FontValue). take i fs ++ x ∷ []) at ∙ sym (take_more fs i f l) in
    record {
      fonts = ap shown ec ∙ map-append _ bs (b ∷ []) ∙ (λ j. n.fonts j ++ e j ∷ []) ∙ next;
      are = subst (AllByRecursion IsFont) next (all_of_both IsFont (take i fs) (f ∷ []) n.are (w, tt));
    }

-- fonts of which the first two have a conflict are refused for it
pub refused_at_second : (bs : List (Bor FontValue)) (f g : Bor FontValue) → 2 ≤ length bs → f ≡ get_or bs 0 f → g ≡ get_or bs 1 g →
    (e : Refusal) → Tells e (conflict profile f.now g.now) → NotMerged (shown bs) e
refused_at_second [] f g l a b e t = absurd (omega (arith, l))
refused_at_second (c ∷ []) f g l a b e t = absurd (omega (arith, l))
refused_at_second (c ∷ d ∷ bs) f g l a b e t = stops_at (c.now ∷ []) d.now (shown bs) (c.now ∷ d.now ∷ shown bs) c.now refl refl e
    (subst (λ (x : Bor FontValue). Tells e (conflict profile c.now x.now)) b (subst (λ (x : Bor FontValue). Tells e (conflict profile x.now g.now)) a t))

-- fonts of which the first two share what they have to
pub shared_by_two : (bs : List (Bor FontValue)) (f g : Bor FontValue) → 2 ≤ length bs → f ≡ get_or bs 0 f → g ≡ get_or bs 1 g →
    FirstShare (shown bs) → shell_conflict f.now g.now ≡ None
shared_by_two [] f g l a b s = absurd (omega (arith, l))
shared_by_two (c ∷ []) f g l a b s = absurd (omega (arith, l))
shared_by_two (c ∷ d ∷ bs) f g l a b s = subst (λ (x : Bor FontValue). shell_conflict x.now g.now ≡ None) (sym a)
    (subst (λ (x : Bor FontValue). shell_conflict c.now x.now ≡ None) (sym b) s)

-- if there are fonts, there are references
pub some_noted : (fs : List FontValue) (cs : List References) → fonts_of cs ≡ fs → 0 < length fs → 0 < length cs
some_noted fs cs h l = let n = ap length h in let m = length-map cs (λ (c : References). c.font.now) in omega (arith, n, m, l)

-- if the references of all fonts are noted, all are fonts
pub font_list : (fs : List FontValue) (cs : List References) → fonts_of cs ≡ fs → AreNoted cs → AllByRecursion IsFont fs
font_list fs cs e h = subst (AllByRecursion IsFont) e (all_fonts cs h)
