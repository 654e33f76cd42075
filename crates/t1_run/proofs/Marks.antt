-- The marks that a run makes up to its end: where it goes back, or ends a plain glyph, they are those that it ends with.
use Rattle.std.proofs.Common.{◌≡◌, refl, sym, ap, subst, ◌∙◌, ℕ, zero, suc, List, [], ◌∷◌, ◌++◌, map, Option, None, Some}
use Rattle.t1_char.specs.{declared.token.Token.{Token}, Tokens.{tokens}}
use Rattle.t1_run.specs.{declared.answer.Fault.TheVariants.{TooLong}, declared.answer.Hints.{Hints}, declared.answer.Mark.{Mark}, State.{State, Ending, Back, Plain, Seac, Failed, start}}
use Rattle.t1_run.specs.Rules.{Step, Goes, Ends, Calls}
use Rattle.t1_run.specs.Run.{Subrs, Visit, Outcome, one_deeper, deeper, visiting, marks_after, visit, then_run, resume, follow, spend, index_of, charstring_at, enter, run_with, call, level_limit}
use Rattle.t1_run.specs.{Run.{run_glyph, marks_by, at_top}, Drawings.{marks_of, IsPlain}, Laws.{MakesItsMarks}}
use Rattle.t1_run.proofs.Resumed.{marks_by-append}

-- an ending that has marks has these
abbrev HasMarks : Ending → List Mark → Type 0
HasMarks (Back s) marks = s.marks ≡ marks
HasMarks (Plain m made) marks = made ≡ marks
HasMarks (Seac a) marks = Unit {0}
HasMarks (Failed fault) marks = Unit {0}

-- after these marks an outcome ends with those that its visits leave
abbrev EndsMarked : List Mark → Outcome → Type 0
EndsMarked marks o = HasMarks o.ending (marks_by marks o.visits)

-- from each state a run does
RestMarked : (State → Outcome) → Type 0
RestMarked rest = (s : State) → EndsMarked s.marks (rest s)

-- visits leave the same marks one call deeper
deeper_marks : (marks : List Mark) (visits : List Visit) → marks_by marks (map one_deeper visits) ≡ marks_by marks visits
deeper_marks marks [] = refl
deeper_marks marks (v ∷ visits) = deeper_marks v.marks visits

-- a run that goes on from a Back does
then_marked : (e : Ending) (rest : State → Outcome) (marks : List Mark) → HasMarks e marks → RestMarked rest → EndsMarked marks (then_run e rest)
unfolding RestMarked
then_marked (Back s) rest marks h k = subst (λ (made : List Mark). EndsMarked made (rest s)) h (k s)
then_marked (Plain m made) rest marks h k = h
then_marked (Seac a) rest marks h k = tt
then_marked (Failed fault) rest marks h k = tt

-- a run that is resumed does if both of its parts do
resume_marked : (marks : List Mark) (o : Outcome) (rest : State → Outcome) → EndsMarked marks o → RestMarked rest → EndsMarked marks (resume o rest)
resume_marked marks o rest h k =
    let later : Outcome = then_run o.ending rest in
    subst (HasMarks later.ending) (sym (marks_by-append marks o.visits later.visits)) (then_marked o.ending rest (marks_by marks o.visits) h k)

-- what follows a token does if its calls and the rest do
follow_marked : (call : Option ℕ → State → Outcome) (rest : State → Outcome) (s : State) (step : Step) →
    ((i : Option ℕ) → RestMarked (call i)) → RestMarked rest → EndsMarked (marks_after s step) (follow call rest step)
unfolding RestMarked
follow_marked call rest s (Goes next) calls k = k next
follow_marked call rest s (Ends (Back next)) calls k = refl
follow_marked call rest s (Ends (Plain m made)) calls k = refl
follow_marked call rest s (Ends (Seac a)) calls k = tt
follow_marked call rest s (Ends (Failed fault)) calls k = tt
follow_marked call rest s (Calls i next) calls k =
    let inside : Outcome = call (index_of i) next in
    resume_marked next.marks (deeper inside) rest (subst (HasMarks inside.ending) (sym (deeper_marks next.marks inside.visits)) (calls (index_of i) next)) k

-- the visit of a token leaves the marks that there are after it
visit_marks : (s : State) (step : Step) → marks_by s.marks (visit s step) ≡ marks_after s step
visit_marks s (Ends (Failed TooLong)) = refl
visit_marks s _ = refl

-- a token and what follows it do
visited_marked : (call : Option ℕ → State → Outcome) (rest : State → Outcome) (s : State) (step : Step) →
    ((i : Option ℕ) → RestMarked (call i)) → RestMarked rest → EndsMarked s.marks (visiting (visit s step) (follow call rest step))
visited_marked call rest s step calls k =
    let later : Outcome = follow call rest step in
    let all : marks_by s.marks (visit s step ++ later.visits) ≡ marks_by (marks_after s step) later.visits =
    marks_by-append s.marks (visit s step) later.visits ∙ ap (λ (made : List Mark). marks_by made later.visits) (visit_marks s step)
    in
    subst (HasMarks later.ending) (sym all) (follow_marked call rest s step calls k)

-- a run of a token list does if its calls do
run_with_marked : (hints : Hints) (call : Option ℕ → State → Outcome) → ((i : Option ℕ) → RestMarked (call i)) → (ts : List Token) →
    RestMarked (run_with hints call ts)
unfolding RestMarked
run_with_marked hints call calls [] s = tt
run_with_marked hints call calls (t ∷ ts) s = visited_marked call (run_with hints call ts) s (spend hints t s) calls (run_with_marked hints call calls ts)

-- a called charstring does
enter_marked : (o : Option (List ℕ)) (inner : List Token → State → Outcome) → ((ts : List Token) → RestMarked (inner ts)) → RestMarked (enter o inner)
unfolding RestMarked
enter_marked None inner k s = tt
enter_marked (Some c) inner k s = k (tokens c) s

-- each call does
call_marked : (subrs : Subrs) (hints : Hints) (levels : ℕ) (i : Option ℕ) → RestMarked (call subrs hints levels i)
unfolding RestMarked
call_marked subrs hints zero i s = tt
call_marked subrs hints (suc levels) i s =
    enter_marked (charstring_at subrs i) (run_with hints (call subrs hints levels))
    (λ ts. run_with_marked hints (call subrs hints levels) (call_marked subrs hints levels) ts) s

-- the marks of an ending that is a plain glyph's are those of the outcome
plain_marks : (e : Ending) (marks : List Mark) → HasMarks e marks → IsPlain (at_top e) → marks ≡ marks_of (at_top e)
plain_marks (Back s) marks h plain = absurd plain
plain_marks (Plain m made) marks h plain = sym h
plain_marks (Seac a) marks h plain = absurd plain
plain_marks (Failed fault) marks h plain = absurd plain

-- a plain glyph's charstring makes the marks of its outcome
pub makes_its_marks : MakesItsMarks
unfolding RestMarked
makes_its_marks hints subrs c plain =
    let o : Outcome = run_glyph subrs hints c in
    plain_marks o.ending (marks_by [] o.visits)
    (run_with_marked hints (call subrs hints level_limit) (call_marked subrs hints level_limit) (tokens c) start) plain
