-- A run that ends without a fault calls no absent Subr, so more Subrs change nothing of it.
use Rattle.std.proofs.Common.{◌≡◌, refl, ap, ◌∙◌, ℕ, zero, suc, List, [], ◌∷◌, map, Option, None, Some, option_map}
use Rattle.t1_char.specs.{declared.token.Token.{Token}, Tokens.{tokens}}
use Rattle.t1_run.specs.{declared.answer.Accent.{Accent}, declared.answer.Hints.{Hints}, declared.answer.Hints.TheVariants.{Replaced, Kept}, State.{State, Ending, Back, Plain, Seac, Failed, start}}
use Rattle.t1_run.specs.Rules.{Step, Goes, Ends, Calls}
use Rattle.t1_run.specs.Run.{Subrs, Outcome, index_taken, index_of, charstring_at, enter, call, then_run, resume, follow, after, visiting, deeper, visit, spend, run_with, run, level_limit}
use Rattle.t1_run.specs.{Run.{run_glyph, direct_by, at_top, calls_of, with_indices, exec}, Drawings.{Glyphs, parts_of, picture, picture_at, of_two, accented_picture, outcome_at, draw_by}}
use Rattle.t1_run.specs.Growth.{Extends, NoFault, IsDrawn, RunsWithMore, DrawsWithMore}

-- the second gives what the first does, wherever that ends without a fault
abbrev GrowsFrom : (State → Outcome) → (State → Outcome) → Type 0
GrowsFrom rest rest' = (s : State) → NoFault (rest s).ending → rest' s ≡ rest s

abbrev Grows : (Option ℕ → State → Outcome) → (Option ℕ → State → Outcome) → Type 0
Grows call call' = (i : Option ℕ) → GrowsFrom (call i) (call' i)

-- what a run goes on from, or ends by, is no fault
then_ended : (e : Ending) (rest : State → Outcome) → NoFault (then_run e rest).ending → NoFault e
then_ended (Back s) rest h = tt
then_ended (Plain m ms) rest h = tt
then_ended (Seac a) rest h = tt
then_ended (Failed e) rest h = h

then_grown : (e : Ending) (rest rest' : State → Outcome) → GrowsFrom rest rest' → NoFault (then_run e rest).ending → then_run e rest' ≡ then_run e rest
then_grown (Back s) rest rest' same h = same s h
then_grown (Plain m ms) rest rest' same h = refl
then_grown (Seac a) rest rest' same h = refl
then_grown (Failed e) rest rest' same h = refl

resume_grown : (o : Outcome) (rest rest' : State → Outcome) → GrowsFrom rest rest' → NoFault (resume o rest).ending → resume o rest' ≡ resume o rest
resume_grown o rest rest' same h = ap (λ (x : Outcome). after o.indices (visiting o.visits x)) (then_grown o.ending rest rest' same h)

follow_grown : (call call' : Option ℕ → State → Outcome) (rest rest' : State → Outcome) (step : Step) → Grows call call' →
    GrowsFrom rest rest' → NoFault (follow call rest step).ending → follow call' rest' step ≡ follow call rest step
follow_grown call call' rest rest' (Goes s) calls same h = same s h
follow_grown call call' rest rest' (Ends e) calls same h = refl
follow_grown call call' rest rest' (Calls i s) calls same h =
    let e : call' (index_of i) s ≡ call (index_of i) s = calls (index_of i) s (then_ended (call (index_of i) s).ending rest h) in
    ap (after (index_taken (index_of i))) (ap (λ (o : Outcome). resume (deeper o) rest') e ∙ resume_grown (deeper (call (index_of i) s)) rest rest' same h)

run_with_grown : (hints : Hints) (call call' : Option ℕ → State → Outcome) (ts : List Token) → Grows call call' →
    GrowsFrom (run_with hints call ts) (run_with hints call' ts)
run_with_grown hints call call' [] calls s h = refl
run_with_grown hints call call' (t ∷ ts) calls s h =
    ap (visiting (visit s (spend hints t s))) (follow_grown call call' (run_with hints call ts) (run_with hints call' ts) (spend hints t s) calls
    (run_with_grown hints call call' ts calls) h)

module _ (f g : Subrs) (more : Extends f g) where
  -- what is there is there in g, and a run of what isn't is a fault
  enter_grown : (i : Option ℕ) (o : Option (List ℕ)) → charstring_at f i ≡ o → (inner inner' : List Token → State → Outcome) →
      ((ts : List Token) → GrowsFrom (inner ts) (inner' ts)) → (s : State) → NoFault (enter o inner s).ending →
      enter (charstring_at g i) inner' s ≡ enter o inner s
  enter_grown i None is inner inner' same s h = absurd h
  enter_grown None (Some c) is inner inner' same s h = cc
  enter_grown (Some i) (Some c) is inner inner' same s h = ap (λ (o : Option (List ℕ)). enter o inner' s) (more i c is) ∙ same (tokens c) s h

  call_grown : (hints : Hints) (levels : ℕ) → Grows (call f hints levels) (call g hints levels)
  call_grown hints zero i s h = refl
  call_grown hints (suc levels) i s h =
      enter_grown i (charstring_at f i) refl (run f hints levels) (run g hints levels)
      (λ ts. run_with_grown hints (call f hints levels) (call g hints levels) ts (call_grown hints levels)) s h

  top_ended : (e : Ending) → NoFault (at_top e) → NoFault e
  top_ended (Back s) h = tt
  top_ended (Plain m ms) h = tt
  top_ended (Seac a) h = tt
  top_ended (Failed e) h = h

  glyph_grown : (hints : Hints) (c : List ℕ) → NoFault (direct_by hints f c) → run_glyph g hints c ≡ run_glyph f hints c
  glyph_grown hints c h =
      run_with_grown hints (call f hints level_limit) (call g hints level_limit) (tokens c)
      (call_grown hints level_limit) start (top_ended (run_glyph f hints c).ending h)

  -- a charstring that ends without a fault answers the same where there are more Subrs
  pub direct_grown : (hints : Hints) (c : List ℕ) → NoFault (direct_by hints f c) → direct_by hints g c ≡ direct_by hints f c
  direct_grown hints c h = ap (λ (o : Outcome). at_top o.ending) (glyph_grown hints c h)

  calls_grown : (hints : Hints) (c : List ℕ) → NoFault (direct_by hints f c) → calls_of hints g c ≡ calls_of hints f c
  calls_grown hints c h = ap (λ (o : Outcome). o.indices) (glyph_grown hints c h)

  executed_grown : (c : List ℕ) → NoFault (direct_by Replaced f c) → NoFault (direct_by Kept f c) → exec g c ≡ exec f c
  executed_grown c h k =
      ap (λ (is : List ℕ). with_indices (with_indices [] is) (calls_of Kept g c)) (calls_grown Replaced c h)
      ∙ ap (λ (is : List ℕ). with_indices (with_indices [] (calls_of Replaced f c)) is) (calls_grown Kept c k)

-- what ends without a fault ends the same where there are more Subrs, and executes the same indices
pub runs_with_more : RunsWithMore
runs_with_more = record {
  answers = λ f g c hints more h. direct_grown f g more hints c h;
  calls = λ f g c hints more h. calls_grown f g more hints c h;
  executes = λ f g c more h k. executed_grown f g more c h k;
}

-- ---- drawings

-- a plain glyph
abbrev IsPlain : Option Ending → Type 0
IsPlain (Some (Plain m ms)) = Unit {0}
IsPlain _ = ⊥

-- an accented glyph is drawn only of two plain glyphs
two_plain : (a : Accent) (x y : Option Ending) → IsDrawn (of_two a x y) → IsPlain x × IsPlain y
two_plain a None y h = absurd h
two_plain a (Some (Back s)) y h = absurd h
two_plain a (Some (Seac b)) y h = absurd h
two_plain a (Some (Failed e)) y h = absurd h
two_plain a (Some (Plain m ms)) None h = absurd h
two_plain a (Some (Plain m ms)) (Some (Back s)) h = absurd h
two_plain a (Some (Plain m ms)) (Some (Seac b)) h = absurd h
two_plain a (Some (Plain m ms)) (Some (Failed e)) h = absurd h
two_plain a (Some (Plain m ms)) (Some (Plain n ns)) h = (tt, tt)

-- a font whose outcomes are those of another wherever those are plain glyphs
accented_grown : (a : Accent) (h k : List ℕ → Option Ending) → ((n : List ℕ) → IsPlain (h n) → k n ≡ h n) →
    (ps : List (List ℕ)) → IsDrawn (accented_picture a (map h ps)) → accented_picture a (map k ps) ≡ accented_picture a (map h ps)
accented_grown a h k same [] d = absurd d
accented_grown a h k same (p ∷ []) d = absurd d
accented_grown a h k same (p ∷ q ∷ []) d =
    let both = two_plain a (h p) (h q) d in
    λ i. of_two a (same p both.0 i) (same q both.1 i)
accented_grown a h k same (p ∷ q ∷ r ∷ ps) d = absurd d

module _ (hints : Hints) (f g : Subrs) (f' g' : Glyphs) (more : Extends f g) (more' : Extends f' g') where
  -- a plain glyph comes to the same where there is more
  outcome_grown : (n : List ℕ) (x : Option (List ℕ)) → f' n ≡ x → IsPlain (option_map (direct_by hints f) x) →
      outcome_at hints g g' n ≡ option_map (direct_by hints f) x
  outcome_grown n None is h = absurd h
  outcome_grown n (Some c) is h =
      ap (option_map (direct_by hints g)) (more' n c is) ∙ ap Some (direct_grown f g more hints c (plain_ended (direct_by hints f c) h))
    where
      plain_ended : (e : Ending) → IsPlain (Some e) → NoFault e
      plain_ended (Back s) h = tt
      plain_ended (Plain m ms) h = tt
      plain_ended (Seac a) h = tt
      plain_ended (Failed e) h = h

  picture_grown : (e : Ending) → IsDrawn (picture e (map (outcome_at hints f f') (parts_of e))) →
      picture e (map (outcome_at hints g g') (parts_of e)) ≡ picture e (map (outcome_at hints f f') (parts_of e))
  picture_grown (Back s) h = refl
  picture_grown (Plain m ms) h = refl
  picture_grown (Seac a) h = accented_grown a (outcome_at hints f f') (outcome_at hints g g') (λ n p. outcome_grown n (f' n) refl p) (parts_of (Seac a)) h
  picture_grown (Failed e) h = refl

  drawn_ended : (e : Ending) (os : List (Option Ending)) → IsDrawn (picture e os) → NoFault e
  drawn_ended (Back s) os h = tt
  drawn_ended (Plain m ms) os h = tt
  drawn_ended (Seac a) os h = tt
  drawn_ended (Failed e) os h = h

  glyph_drawn : (name : List ℕ) (x : Option (List ℕ)) → f' name ≡ x → IsDrawn (picture_at hints f f' (option_map (direct_by hints f) x)) →
      draw_by hints g g' name ≡ picture_at hints f f' (option_map (direct_by hints f) x)
  glyph_drawn name None is h = absurd h
  glyph_drawn name (Some c) is h =
      let own = direct_by hints f c in
      ap (λ (x : Option (List ℕ)). picture_at hints g g' (option_map (direct_by hints g) x)) (more' name c is)
      ∙ ap (λ (e : Ending). picture_at hints g g' (Some e)) (direct_grown f g more hints c (drawn_ended own (map (outcome_at hints f f') (parts_of own)) h))
      ∙ picture_grown own h

  -- a name that is drawn is drawn the same where there are more glyphs and Subrs
  pub drawn_grown : (name : List ℕ) → IsDrawn (draw_by hints f f' name) → draw_by hints g g' name ≡ draw_by hints f f' name
  drawn_grown name h = glyph_drawn name (f' name) refl h

-- what is drawn is drawn the same where there are more glyphs and Subrs
pub draws_with_more : DrawsWithMore
draws_with_more = record {
  draws = λ f g f' g' name more more' h. drawn_grown Replaced f g f' g' more more' name h;
  draws3 = λ f g f' g' name more more' h. drawn_grown Kept f g f' g' more more' name h;
}
