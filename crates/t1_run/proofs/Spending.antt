-- The tokens that visits stand for: a token that is executed is one visit, and one that is no longer allowed is none.
use Rattle.std.proofs.Common.{◌≡◌, refl, ap, ◌∙◌, ℕ, ◌+◌, ◌-◌, List, [], ◌∷◌, ◌++◌, length, take, drop, ℤ, ◌*ℤ◌, Bool, true, false, Option, Some, None, cond, arith}
use Rattle.std.proofs.lemmas.Bool.{eqb-true, eqb-false}
use Rattle.std.specs.Prelude.{nat_lt, nat_le, unsigned_abs, ◌==◌, not}
use Rattle.t1_char.specs.{declared.token.Command.{Command}, declared.token.Token.{Token}, declared.token.Token.TheVariants.{Num, Cmd, Bad, Cut}}
use Rattle.t1_char.specs.declared.token.Command.TheVariants.{Hstem, Vstem, Vmoveto, Rlineto, Hlineto, Vlineto, Rrcurveto, Closepath, Callsubr, Return, Hsbw, Endchar, Rmoveto, Hmoveto, Vhcurveto}
use Rattle.t1_char.specs.declared.token.Command.TheVariants.{Hvcurveto, Dotsection, Vstem3, Hstem3, Seac as Seac', Sbw, Div, Callothersubr, Pop, Setcurrentpoint}
use Rattle.t1_run.specs.{declared.answer.Point.{Point}, declared.answer.Mark.{Mark}, declared.answer.Fault.{Fault}, declared.answer.Metrics.{Metrics}, declared.answer.Hints.{Hints}}
use Rattle.t1_run.specs.declared.answer.Fault.TheVariants.{Overflow, Underflow, BadFlex, OtherProc, ZeroDivisor, Range, NotWhole, EmptyPop, TooLong}
use Rattle.t1_run.specs.State.{State, Plain, Seac, Failed, Steps, unit, shift, curve, quotient, whole, accented}
use Rattle.t1_run.specs.Rules.{Step, Goes, Ends, Calls, fails, one, two, three, four, five, six, top, below, given, with_top, sized, unsized, no_flex, provided, marked, begins, moves_to, moves}
use Rattle.t1_run.specs.Rules.{draws, lines, curves, hint, push, divides, pops, begin_flex, add_point, flex_curves, end_flex, replaces, finish_flex, other, takes, with_arguments, call_other, rule}
use Rattle.t1_run.specs.Run.{visit, step, spend}
use Rattle.t1_run.specs.declared.answer.Mark.TheVariants as mark

-- It ends by no want of tokens.
abbrev IsExecuted : Step → Type 0
IsExecuted (Ends (Failed TooLong)) = ⊥
IsExecuted _ = Unit {0}

-- ---- rules

given_is : {A : Type 0} (o : Option A) (fault : Fault) (f : A → Step) → IsExecuted (fails fault) → ((a : A) → IsExecuted (f a)) → IsExecuted (given o fault f)
given_is None fault f h k = h
given_is (Some a) fault f h k = k a

top_is : (stack : List ℤ) (f : ℤ → List ℤ → Step) → ((a : ℤ) → IsExecuted (f a (below stack))) → IsExecuted (with_top stack f)
top_is stack f k = given_is (top stack) Underflow (λ a. f a (below stack)) tt k

sized_is : (m : Option Metrics) (f : Metrics → Step) → ((a : Metrics) → IsExecuted (f a)) → IsExecuted (sized m f)
sized_is None f k = tt
sized_is (Some m) f k = k m

no_flex_is : (f : Option (List Point)) (step : Step) → IsExecuted step → IsExecuted (no_flex f step)
no_flex_is None step h = h
no_flex_is (Some points) step h = tt

provided_is : (b : Bool) (fault : Fault) (step : Step) → IsExecuted (fails fault) → IsExecuted step → IsExecuted (provided b fault step)
provided_is true fault step h k = k
provided_is false fault step h k = h

if_is : (b : Bool) (x y : Step) → IsExecuted x → IsExecuted y → IsExecuted (cond b x y)
if_is true x y h k = h
if_is false x y h k = k

begins_is : (s : State) (m : Metrics) → IsExecuted (begins s m)
begins_is s m = by s.metrics
  where
    by : (given : Option Metrics) → IsExecuted (unsized given (Goes (record s { stack = []; at = m.bearing; metrics = Some m })))
    by None = tt
    by (Some given) = tt

hint_is : (s : State) (m : Mark) → IsExecuted (hint s m)
hint_is s m = sized_is s.metrics (λ _. marked s m) (λ _. tt)

moves_is : (s : State) (dx dy : ℤ) → IsExecuted (moves s dx dy)
moves_is s dx dy =
    sized_is s.metrics (λ _. given (shift s.at dx dy) Range (λ p. moves_to s.flex s p))
    (λ _. given_is (shift s.at dx dy) Range (λ p. moves_to s.flex s p) tt (λ p. by s.flex p))
  where
    by : (f : Option (List Point)) (p : Point) → IsExecuted (moves_to f s p)
    by None p = tt
    by (Some points) p = tt

lines_is : (s : State) (dx dy : ℤ) → IsExecuted (lines s dx dy)
lines_is s dx dy =
    let drawn : Step = given (shift s.at dx dy) Range (λ p. draws s p (mark.Line p)) in
    sized_is s.metrics (λ _. no_flex s.flex drawn)
    (λ _. no_flex_is s.flex drawn (given_is (shift s.at dx dy) Range (λ p. draws s p (mark.Line p)) tt (λ _. tt)))

curves_is : (s : State) (steps : Steps) → IsExecuted (curves s steps)
curves_is s steps =
    let drawn : Step = given (curve s.at steps) Range (λ c. draws s c.end (mark.Curve c)) in
    sized_is s.metrics (λ _. no_flex s.flex drawn)
    (λ _. no_flex_is s.flex drawn (given_is (curve s.at steps) Range (λ c. draws s c.end (mark.Curve c)) tt (λ _. tt)))

divides_is : (s : State) (a b : ℤ) → IsExecuted (divides s a b)
divides_is s a b =
    provided_is (not (unsigned_abs b == 0)) ZeroDivisor (given (quotient a b) Range (λ q. push s q)) tt
    (given_is (quotient a b) Range (λ q. push s q) tt (λ _. tt))

pops_is : (s : State) → IsExecuted (pops s)
pops_is s =
    let popped : ℤ → Step = λ z. Goes (record s { stack = s.stack ++ z ∷ []; postscript = below s.postscript }) in
    given_is (top s.postscript) EmptyPop (λ z. provided (nat_lt (length s.stack) 24) Overflow (popped z)) tt
    (λ z. provided_is (nat_lt (length s.stack) 24) Overflow (popped z) tt tt)

begin_flex_is : (f : Option (List Point)) (s : State) → IsExecuted (begin_flex f s)
begin_flex_is None s = tt
begin_flex_is (Some points) s = tt

add_point_is : (f : Option (List Point)) (s : State) → IsExecuted (add_point f s)
add_point_is None s = tt
add_point_is (Some points) s = provided_is (nat_lt (length points) 7) BadFlex (Goes (record s { flex = Some (points ++ s.at ∷ []) })) tt tt

finish_flex_is : (s : State) (p : ℤ × ℤ × ℤ) → IsExecuted (finish_flex s p)
finish_flex_is s (height, x, y) = by s.flex (record s { postscript = y ∷ x ∷ [] })
  where
    by : (f : Option (List Point)) (s : State) → IsExecuted (end_flex f s height)
    by None s = tt
    by (Some points) s = given_is (flex_curves points) BadFlex _ tt (λ _. tt)

other_is : (hints : Hints) (s : State) (o : ℕ) (arguments : List ℤ) → IsExecuted (other hints s o arguments)
other_is hints s o arguments =
    let ends_flex : Step = given (three arguments) Underflow (λ a. finish_flex s a) in
    let hinted : Step = given (one arguments) Underflow (λ subr. replaces hints s subr) in
    let from_3 : Step = cond (o == 3) hinted (Goes s) in
    let from_2 : Step = cond (o == 2) (add_point s.flex s) from_3 in
    let from_1 : Step = cond (o == 1) (begin_flex s.flex s) from_2 in
    let is_3 : IsExecuted from_3 =
    if_is (o == 3) hinted (Goes s) (given_is (one arguments) Underflow (λ subr. replaces hints s subr) tt (λ _. tt)) tt in
    let is_2 : IsExecuted from_2 = if_is (o == 2) (add_point s.flex s) from_3 (add_point_is s.flex s) is_3 in
    let is_1 : IsExecuted from_1 = if_is (o == 1) (begin_flex s.flex s) from_2 (begin_flex_is s.flex s) is_2 in
    if_is (o == 0) ends_flex from_1 (given_is (three arguments) Underflow (λ a. finish_flex s a) tt (λ a. finish_flex_is s a)) is_1

with_arguments_is : (hints : Hints) (s : State) (n o : ℤ) → IsExecuted (with_arguments hints s n o)
unfolding with_arguments
with_arguments_is hints s n o =
    let count : ℕ = unsigned_abs n in
    let kept : ℕ = length s.stack - count in
    let last : Step = other hints (record s { stack = take kept s.stack; postscript = [] }) (unsigned_abs o) (drop kept s.stack) in
    let enough : Step = provided (nat_le count (length s.stack)) Underflow last in
    provided_is (takes o n) OtherProc enough tt (provided_is (nat_le count (length s.stack)) Underflow last tt
    (other_is hints (record s { stack = take kept s.stack; postscript = [] }) (unsigned_abs o) (drop kept s.stack)))

call_other_is : (hints : Hints) (s : State) (n o : ℤ) → IsExecuted (call_other hints s n o)
call_other_is hints s n o =
    let by_n : ℤ → Step = λ o. given (whole n) NotWhole (λ n. with_arguments hints s n o) in
    sized_is s.metrics (λ _. given (whole o) NotWhole by_n) (λ _. given_is (whole o) NotWhole by_n tt
    (λ o. given_is (whole n) NotWhole (λ n. with_arguments hints s n o) tt (λ n. with_arguments_is hints s n o)))

rule_is : (hints : Hints) (c : Command) (s : State) → IsExecuted (rule hints c s)
unfolding rule
rule_is hints Hsbw s = given_is (two s.stack) Underflow _ tt (λ p. begins_is s _)
rule_is hints Sbw s = given_is (four s.stack) Underflow _ tt (λ p. begins_is s _)
rule_is hints Hstem s = given_is (two s.stack) Underflow _ tt (λ p. hint_is s _)
rule_is hints Vstem s = given_is (two s.stack) Underflow _ tt (λ p. hint_is s _)
rule_is hints Hstem3 s = given_is (six s.stack) Underflow _ tt (λ p. hint_is s _)
rule_is hints Vstem3 s = given_is (six s.stack) Underflow _ tt (λ p. hint_is s _)
rule_is hints Dotsection s = hint_is s mark.Dot
rule_is hints Rmoveto s = given_is (two s.stack) Underflow _ tt (λ p. moves_is s _ _)
rule_is hints Hmoveto s = given_is (one s.stack) Underflow _ tt (λ p. moves_is s _ _)
rule_is hints Vmoveto s = given_is (one s.stack) Underflow _ tt (λ p. moves_is s _ _)
rule_is hints Rlineto s = given_is (two s.stack) Underflow _ tt (λ p. lines_is s _ _)
rule_is hints Hlineto s = given_is (one s.stack) Underflow _ tt (λ p. lines_is s _ _)
rule_is hints Vlineto s = given_is (one s.stack) Underflow _ tt (λ p. lines_is s _ _)
rule_is hints Rrcurveto s = given_is (six s.stack) Underflow _ tt (λ p. curves_is s p)
rule_is hints Vhcurveto s = given_is (four s.stack) Underflow _ tt (λ p. curves_is s _)
rule_is hints Hvcurveto s = given_is (four s.stack) Underflow _ tt (λ p. curves_is s _)
rule_is hints Closepath s = sized_is s.metrics _ (λ _. no_flex_is s.flex (marked s mark.Close) tt)
rule_is hints Setcurrentpoint s = given_is (two s.stack) Underflow _ tt (λ p. sized_is s.metrics _ (λ _. tt))
rule_is hints Div s =
    let by_a : ℤ → ℤ → List ℤ → Step = λ b a rest. divides (record s { stack = rest }) a b in
    top_is s.stack (λ b more. with_top more (by_a b)) (λ b.
    top_is (below s.stack) (by_a b) (λ a. divides_is (record s { stack = below (below s.stack) }) a b))
rule_is hints Callsubr s =
    let by_i : List ℤ → ℤ → Step = λ rest i. Calls i (record s { stack = rest }) in
    top_is s.stack (λ i rest. given (whole i) NotWhole (by_i rest)) (λ i. given_is (whole i) NotWhole (by_i (below s.stack)) tt (λ _. tt))
rule_is hints Return s = tt
rule_is hints Pop s = pops_is s
rule_is hints Callothersubr s =
    let by_n : ℤ → ℤ → List ℤ → Step = λ o n rest. call_other hints (record s { stack = rest }) n o in
    top_is s.stack (λ o more. with_top more (by_n o)) (λ o.
    top_is (below s.stack) (by_n o) (λ n. call_other_is hints (record s { stack = below (below s.stack) }) n o))
rule_is hints Seac' s = given_is (five s.stack) Underflow _ tt (λ p. sized_is s.metrics _
    (λ m. no_flex_is s.flex _ (given_is (accented m p) NotWhole (λ a. Ends (Seac a)) tt (λ _. tt))))
rule_is hints Endchar s = sized_is s.metrics _ (λ m. no_flex_is s.flex (Ends (Plain m s.marks)) tt)

step_is : (hints : Hints) (t : Token) (s : State) → IsExecuted (step hints t s)
step_is hints (Num n) s = provided_is (nat_lt (length s.stack) 24) Overflow (push s (n *ℤ unit)) tt tt
step_is hints (Cmd c) s = rule_is hints c s
step_is hints (Bad code) s = tt
step_is hints Cut s = tt

-- ---- visits

one_visit : (s : State) (step : Step) → IsExecuted step → length (visit s step) ≡ 1
one_visit s (Ends (Failed TooLong)) h = absurd h
one_visit s step h = refl

-- a token makes a visit where one is left, and that takes it
visit_takes : (s : State) (none : Bool) (step : Step) → s.allowed == 0 ≡ none → IsExecuted step →
    length (visit s (cond none (fails TooLong) step)) + (s.allowed - 1) ≡ s.allowed
visit_takes s true step e h = let none : s.allowed ≡ 0 = eqb-true s.allowed 0 e in omega (arith, none)
visit_takes s false step e h =
    let some : s.allowed ≡ 0 → ⊥ = eqb-false s.allowed 0 e in
    let visited : length (visit s step) ≡ 1 = one_visit s step h in
    omega (arith, some, visited)

pub visit_spends : (hints : Hints) (t : Token) (s : State) (step : Step) → step ≡ spend hints t s → length (visit s step) + (s.allowed - 1) ≡ s.allowed
visit_spends hints t s x e =
    ap (λ (x : Step). length (visit s x) + (s.allowed - 1)) e
    ∙ visit_takes s (s.allowed == 0) (step hints t (record s { allowed = s.allowed - 1 })) refl (step_is hints t (record s { allowed = s.allowed - 1 }))

-- the same, where that many tokens are left after it
pub visit_leaves : (hints : Hints) (t : Token) (s : State) (step : Step) (left : ℕ) → step ≡ spend hints t s → left ≡ s.allowed - 1 →
    length (visit s step) + left ≡ s.allowed
visit_leaves hints t s x left e fewer = ap (λ n. length (visit s x) + n) fewer ∙ visit_spends hints t s x e
