-- Merges of fonts are joins of their states.
use Rattle.std.proofs.Common.{◌≡◌, ◌<◌, ◌+◌, ℕ, zero, suc, List, [], ◌∷◌, map, length, take, get_or, refl, sym, ◌∙◌, ap, subst, arith, inl, Option, Some, option_map, Result, Ok, Err, IfErr}
use Rattle.std.proofs.lemmas.List.{map-id, length-map, take-map}
use Rattle.std.specs.List.{AllByRecursion}
use Rattle.t1_join.{specs.Groupings.{one, from_left, IsJoinOf}, proofs.OrderLemmas.{leaves_mapped, leaves_from_left, uses_its}}
use Rattle.t1_font.specs.{FontValue.{FontValue}, IsFont.{IsFont}}
use Rattle.t1_algebra.specs.{Profile.{profile}, StateTables.{StatesValue, FontStatesJoin, states_of}, Merges.{ComesTo, ComesToStates, AreOfFont}, Conflicts.{conflict}}
use Rattle.t1_algebra.proofs.{Fonts.{fonts_within, merges_are_fonts}, FontStates.{font_known}, ManyMerges.{each_font}, Orders.{grouped, merges_by_states}}
use Rattle.t1_subset.specs.{declared.conflict.Conflict.{Conflict as Refusal}, declared.conflict.Conflict.TheVariants.{Memory}, Merger.{NotMerged}, declared.references.References.{References}}
use Rattle.t1_subset.specs.{References.{AreNoted, fonts_of}, Refusals.{Tells}, Clashes.{AreStatesOf, AreReferences}}
use Rattle.t1_subset.proofs.state_tables.Walks.{JoinedSoFar, all_fonts, far_by, turn, stops, next_states, next_callers}

-- if the code answers a join of the states of fonts, they come to a font of these states
pub joined_come : (cs : List References) → AreNoted cs → (ss : List StatesValue) → ss ≡ map (states_of profile) (fonts_of cs) →
    (o : Option StatesValue) (v : StatesValue) → o ≡ Some v → IsJoinOf FontStatesJoin (map (λ s. s) ss) (option_map (λ s. s) o) → ComesToStates (fonts_of cs) v
joined_come [] n ss is o v e h =
    let some = (subst (λ o. IsJoinOf FontStatesJoin (map (λ s. s) ss) (option_map (λ s. s) o)) e h).0 in
    absurd (omega (arith, some, ap length is, ap length (map-id ss)))
joined_come (c ∷ cs) n ss is o v e h =
    let f = c.font.now in let fs = fonts_of cs in let t = from_left (one f) fs in
    let uses = uses_its (grouped profile t) (map (λ s. s) ss)
    (leaves_mapped (states_of profile) t ∙ ap (map (states_of profile)) (leaves_from_left (one f) fs) ∙ sym (map-id ss ∙ is)) in
    let r = merges_by_states profile t (fonts_within t (each_font f fs (all_fonts (c ∷ cs) n))) v
    ((subst (λ o. IsJoinOf FontStatesJoin (map (λ s. s) ss) (option_map (λ s. s) o)) e h).1 (grouped profile t) uses) in
    (r.0, r.1, r.2)

-- ---- the first fonts of a list

noted_taken : (cs : List References) → AreNoted cs → (n : ℕ) → AreNoted (take n cs)
noted_taken cs h zero = tt
noted_taken [] h (suc n) = tt
noted_taken (c ∷ cs) h (suc n) = (h.0, noted_taken cs h.1 n)

-- if the states of the first fonts join to these, and the next font has a conflict with what they come to, it is refused for that
pub refused_next : (cs : List References) → AreNoted cs → (ss : List StatesValue) → ss ≡ map (states_of profile) (fonts_of cs) → (n : ℕ) (v : StatesValue) →
    IsJoinOf FontStatesJoin (map (λ s. s) (take n ss)) (Some v) → (next : StatesValue) → n < length ss → next ≡ get_or ss n next → (r : Refusal) →
    ((f g : FontValue) → AreStatesOf v next f g → AreReferences (take (n + 1) cs) f g → Tells r (conflict profile f g)) → NotMerged (fonts_of cs) r
refused_next cs h ss is zero v j next l at r tells = absurd (let some = j.0 in omega (arith, some))
refused_next cs h ss is (suc n) v j next l at r tells =
    let inside : suc n < length cs =
    omega (arith, l, ap length is, length-map (fonts_of cs) (states_of profile), length-map cs (λ (c : References). c.font.now)) in
    let states = take-map (states_of profile) (suc n) (fonts_of cs) ∙ ap (map (states_of profile)) (take-map (λ (c : References). c.font.now) (suc n) cs) in
    let come = joined_come (take (suc n) cs) (noted_taken cs h (suc n)) (take (suc n) ss) (ap (take (suc n)) is ∙ states) (Some v) v refl j in
    let own = far_by cs h n (omega (arith, inside)) come.0 come.1 in
    let far : JoinedSoFar (take (suc n) cs) v = record { font = come.0; comes = come.1; is_font = own.0; states = come.2; references = own.1 } in
    let t = turn cs h (suc n) inside in
    stops cs (suc n) t v far r (tells come.0 t.here.font.now (next_states cs (suc n) t v far ss is next at) (next_callers cs (suc n) t v far))

-- the font of the states that fonts come to is what they come to
pub states_come : (fs : List FontValue) (s : StatesValue) → ComesToStates fs s → (j : FontValue) → s ≡ states_of profile j → ComesTo fs j
states_come fs s h j is = subst (ComesTo fs) (font_known profile h.0 j (sym h.2 ∙ is)) h.1

-- what fonts come to is a font
pub comes_to_font : (fs : List FontValue) → AllByRecursion IsFont fs → (s : StatesValue) → ComesToStates fs s → AreOfFont s
comes_to_font [] w s h = absurd h.1
comes_to_font (f ∷ fs) w s h = (h.0, merges_are_fonts profile (from_left (one f) fs) h.0 h.1 (each_font f fs w), h.2)

-- a refusal for want of memory alone is a refusal of one or more fonts
pub refused_err : (fs : List FontValue) → 0 < length fs → (r : Result FontValue Refusal) → IfErr r (λ e. e ≡ Memory) → IfErr r (λ e. NotMerged fs e)
refused_err [] l r h = absurd (omega arith)
refused_err (f ∷ fs) l (Ok j) h = tt
refused_err (f ∷ fs) l (Err c) h = inl h
