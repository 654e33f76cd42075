-- Turns of a machine: what it does with a token, whatever marks were made before, is a turn of the run after the marks that were.
use Rattle.std.proofs.Common.{◌≡◌, refl, sym, ap, subst, ◌∙◌, ℕ, zero, suc, ◌+◌, ◌-◌, ◌<◌, ◌≤◌, ◌==◌, cond, Bool, true, false, not, ◌&&◌, ◌||◌, List, [], ◌∷◌, ◌++◌, length, ℤ, Option, Some, arith}
use Rattle.std.specs.List.{list_any}
use Rattle.std.proofs.lemmas.{List.Folds.{list_any-append}, Bool.{false≢true}}
use Rattle.t1_char.specs.{declared.token.Token.{Token}, Tokens.{tokens}}
use Rattle.t1_run.specs.{declared.frames.Frame.{Frame}, declared.machine.Machine.{Machine}, declared.machine.Flow.{Flow}, declared.answer.Halt.{Halt}, declared.answer.Mark.{Mark}}
use Rattle.t1_run.specs.{declared.answer.Fault.{Fault}, declared.answer.Fault.TheVariants.{Unended, TooLong}, declared.answer.Hints.{Hints}, declared.answer.Hints.TheVariants.{Kept}}
use Rattle.t1_run.specs.{State.{State, Ending, Back, Failed, start, token_limit}, Rules.{Step, Goes, Ends, fails}, declared.budget.Allowance.{Allowance}, Budgets.{tokens_by, is_replace}}
use Rattle.t1_run.specs.declared.answer.Curve.{Curve}
use Rattle.t1_run.specs.Run.{Subrs, Outcome, ends, index_taken, index_of, charstring_at, then_run, level_limit, call, with_indices, run_glyph, at_top, marks_after, spend, step}
use Rattle.t1_run.specs.{Machine.{state_of, step_of, is_one, left_of, Spent, SpendsNext, EndsAtLimit, Withheld, ending_of, Runs}, Frames.{frame_left}, Limits.{EndsWithinLimits, Keeps}}
use Rattle.t1_run.proofs.{Limits.{start_within}, Turns.{Turns, Turn, Ended, begins, turn, runs_out, length_push, on_more, on_goes, on_back, on_last, on_end, on_fault, on_call}}
use Rattle.t1_run.proofs.Mirrors.{Mirror, MirrorTurn, mirror_begins, mirror_turn, mirror_out, mirror_goes, mirror_back, mirror_last, mirror_end, mirror_fault, mirror_call}
use Rattle.t1_run.specs.declared.answer.Mark.TheVariants as mark
use Rattle.t1_run.specs.declared.machine.Flow.TheVariants as flow
use Rattle.t1_run.specs.declared.answer.Halt.TheVariants as halt

-- Between two turns: what is left of the frames, from the state of the machine after the marks so far, which were drawn; what the budget withholds is as it was
-- before the first.
pub record Between {P : Type 0} (subrs : Subrs) (hints : Hints) (c old : List ℕ) (one : Bool)
    (Drawn : List Mark → Type 0) (frames : List Frame) (m : Machine P) (now : List ℕ) (first a : Allowance) : Type 0 where
  pub marks : List Mark
  pub drawn : Drawn marks
  pub turns : Turns (run_glyph subrs hints c) old subrs hints frames (state_of m (left_of a) marks) now
  pub mirror : Mirror (run_glyph subrs hints c) (run_glyph subrs Kept c) subrs hints Kept one frames (state_of m (left_of a) marks)
  pub told : one ≡ not (list_any is_replace marks)
  pub all : left_of first ≡ token_limit
  pub withheld : a.withheld ≡ first.withheld

-- the run may go on
abbrev IsGoing : Flow → Type 0
IsGoing (flow.Fail fault) = ⊥
IsGoing _ = Unit {0}

-- then fewer tokens are left than before
fewer : (on : Flow) (before after : ℕ) → IsGoing on → (before ≡ 0 → on ≡ flow.Fail TooLong) → after ≡ before - 1 → after < before
fewer on zero after going spent e = absurd (subst IsGoing (spent refl) going)
fewer on (suc n) after going spent e = omega (arith, e)

-- what is known of the flow by which the machine goes on
pub spent_as : {P : Type 0} {hints : Hints} {m m' : Machine P} {left left' : ℕ} {old new : List Token} (on : Flow) →
    SpendsNext hints m m' left left' old new (Some on) → (on' : Flow) → on ≡ on' → SpendsNext hints m m' left left' old new (Some on')
spent_as {hints = hints} {m = m} {m' = m'} {left = left} {left' = left'} on spent on' is =
    (spent.0, spent.1, subst (λ f. Spent hints spent.0 m m' left left' f) is spent.2)

-- a token that is not allowed is too long
too_long : (hints : Hints) (t : Token) (s : State) → s.allowed ≡ 0 → fails TooLong ≡ spend hints t s
too_long hints t s none =
    sym (ap (λ b. cond b (fails TooLong) (step hints t (record s { allowed = s.allowed - 1 }))) (ap (λ n. n == 0) none))

-- a turn that goes on leaves fewer tokens
pub leaves_fewer : {P : Type 0} {hints : Hints} {t : Token} {m m' : Machine P} {left left' : ℕ} (on : Flow) → IsGoing on → Spent hints t m m' left left' on →
    left' < left
leaves_fewer {left = left} {left' = left'} on going spent = fewer on left left' going spent.spent spent.fewer

-- before the first turn
pub at_start : {P : Type 0} (subrs : Subrs) (hints : Hints) (c old : List ℕ) (Drawn : List Mark → Type 0) (frames : List Frame) (top : Frame) (m : Machine P) →
    frames ≡ [] ++ top ∷ [] → state_of m token_limit [] ≡ start → frame_left top ≡ tokens c → Drawn [] → (a : Allowance) → left_of a ≡ token_limit →
    Between subrs hints c old true Drawn frames m old a a
at_start subrs hints c old Drawn frames top m first new all none a full =
    let begun : start ≡ state_of m (left_of a) [] = sym (ap (λ n. state_of m n []) full ∙ new) in
    record {
      marks = [];
      drawn = none;
      turns = subst (λ s. Turns (run_glyph subrs hints c) old subrs hints frames s old)
          begun (begins subrs hints c start old frames top first all refl refl start_within);
      mirror = subst (λ s. Mirror (run_glyph subrs hints c) (run_glyph subrs Kept c) subrs hints Kept true frames s)
          begun (mirror_begins subrs hints Kept c start frames top first all);
      told = refl;
      all = full;
      withheld = refl;
    }

-- after one more mark it is told with it whether none replaces hints
pub told_with : (marks : List Mark) (m : Mark) (one here : Bool) → here ≡ is_replace m → one ≡ not (list_any is_replace marks) →
    (one && not here) ≡ not (list_any is_replace (marks ++ m ∷ []))
told_with marks m one here is told =
    ap (λ b. b && not here) told ∙ ap (λ b. not (list_any is_replace marks) && not b) is
    ∙ neither (list_any is_replace marks) (is_replace m) ∙ ap not (sym (list_any-append is_replace marks (m ∷ [])))
  where
    neither : (a b : Bool) → (not a && not b) ≡ not (a || (b || false))
    neither true b = refl
    neither false true = refl
    neither false false = refl

-- where it is told that none does, this mark doesn't, and none did before
pub none_before : (m : Mark) (one here : Bool) → here ≡ is_replace m → (one && not here) ≡ true → (one ≡ true) × (not (is_replace m) ≡ true)
none_before m true here is h = (refl, ap not (sym is) ∙ h)
none_before m false here is h = absurd (false≢true h)

-- the marks of a flex replace no hints
pub told_with_flex : (marks : List Mark) (one : Bool) (height : ℤ) (before after : Curve) → one ≡ not (list_any is_replace marks) →
    one ≡ not (list_any is_replace (marks ++ mark.Flex height ∷ mark.Curve before ∷ mark.Curve after ∷ []))
told_with_flex marks one height before after told =
    told ∙ ap not (or_false (list_any is_replace marks))
    ∙ ap not (sym (list_any-append is_replace marks (mark.Flex height ∷ mark.Curve before ∷ mark.Curve after ∷ [])))
  where
    or_false : (a : Bool) → a ≡ (a || false)
    or_false true = refl
    or_false false = refl

-- ---- endings of charstrings

stops : (h : Halt) (marks : List Mark) (g : State → Outcome) → then_run (ending_of h marks) g ≡ ends (ending_of h marks)
stops (halt.Plain metrics) marks g = refl
stops (halt.Seac accent) marks g = refl
stops (halt.Failed fault) marks g = refl

at_top_is : (h : Halt) (marks : List Mark) → at_top (ending_of h marks) ≡ ending_of h marks
at_top_is (halt.Plain metrics) marks = refl
at_top_is (halt.Seac accent) marks = refl
at_top_is (halt.Failed fault) marks = refl

-- what ends a charstring leaves the marks as they are
ends_marks : {P : Type 0} (h : Halt) (m : Machine P) (left : ℕ) (marks : List Mark) → marks_after (state_of m left marks) (Ends (ending_of h marks)) ≡ marks
ends_marks (halt.Plain metrics) m left marks = refl
ends_marks (halt.Seac accent) m left marks = refl
ends_marks (halt.Failed f) m left marks = refl

ends_within : (h : Halt) (marks : List Mark) (n : ℕ) → Keeps n (Ends (ending_of h marks)) → EndsWithinLimits (ending_of h marks)
ends_within (halt.Plain metrics) marks n k = k
ends_within (halt.Seac accent) marks n k = k
ends_within (halt.Failed fault) marks n k = k

-- ---- turns

-- what is left of all that was allowed at first
counted_by : (tokens : ℕ) (first a : Allowance) → left_of first ≡ token_limit → a.withheld ≡ first.withheld → tokens + left_of a ≡ token_limit →
    tokens + a.allowed ≡ first.allowed
counted_by tokens first a all same spent = omega (arith, all, same, spent)

module _ {P : Type 0} {subrs : Subrs} {hints : Hints} {c old : List ℕ} {one : Bool} {Drawn : List Mark → Type 0} {frames : List Frame} {m : Machine P}
    {now : List ℕ} {first a : Allowance} (inv : Between subrs hints c old one Drawn frames m now first a)
    (rest : List Frame) (top : Frame) (are : frames ≡ rest ++ top ∷ []) where
  abbrev Ran : Halt → List ℕ → Type 0
  Ran h now = Runs (run_glyph subrs hints c) h one Drawn old now

  -- so many tokens were executed in all, if so many are left
  abbrev Spends : Allowance → Type 0
  Spends a' = tokens_by hints subrs c + a'.allowed ≡ first.allowed

  -- the charstring ended so after the marks so far
  ran : (h : Halt) (end : Ending) (now : List ℕ) (left : ℕ) → ending_of h inv.marks ≡ at_top end →
      EndsWithinLimits (ending_of h inv.marks) → Ended (run_glyph subrs hints c) end old now inv.marks left → Ran h now
  ran h end now left is within e =
      record { marks = inv.marks; drawn = inv.drawn; made = e.made; told = inv.told; ends_so = is ∙ ap at_top e.ends_so; within = within; called = e.called }

  spends : (end : Ending) (now : List ℕ) (marks : List Mark) (a' : Allowance) → a'.withheld ≡ a.withheld →
      Ended (run_glyph subrs hints c) end old now marks (left_of a') → Spends a'
  spends end now marks a' same e = counted_by (tokens_by hints subrs c) first a' inv.all (same ∙ inv.withheld) e.spent

  -- no token is left on top
  pub out : frame_left top ≡ [] → Ran (halt.Failed Unended) now
  out none = ran (halt.Failed Unended) _ now (left_of a) refl tt (runs_out inv.turns rest top are none)

  pub out_spends : frame_left top ≡ [] → (a' : Allowance) → a'.withheld ≡ a.withheld → left_of a' ≡ left_of a → Spends a'
  out_spends none a' same left =
      let spent : Spends a = spends (Failed Unended) now inv.marks a refl (runs_out inv.turns rest top are none) in
      omega (arith, spent, same, left)

  -- where hints are kept it ends the same, if nothing told the runs apart
  pub out_one : frame_left top ≡ [] → one ≡ true → run_glyph subrs Kept c ≡ run_glyph subrs hints c
  out_one none = mirror_out inv.mirror rest top are none

  -- no more tokens are allowed
  module _ (none : a.allowed ≡ 0) (top' : Frame) where
    -- the budget withholds the next token, which the run would execute
    pub refused : Withheld a (frame_left top) (frame_left top') →
        (0 < first.withheld) × (first.allowed < tokens_by hints subrs c) × (a.allowed ≡ 0)
    refused w =
        let more : token_limit ≤ tokens_by hints subrs c + (left_of a - 1) = on_more (turn inv.turns rest top are top' w.next w.are) (left_of a - 1) refl in
        (omega (arith, w.some, inv.withheld), omega (arith, more, w.some, none, inv.withheld, inv.all), none)

  -- the frame on top gives its next token, which the machine spends
  module _ (top' : Frame) (t : Token) (m' : Machine P) (a' : Allowance) (on : Flow) (next : frame_left top ≡ t ∷ frame_left top')
      (spent : Spent hints t m m' (left_of a) (left_of a') on) (same : a'.withheld ≡ a.withheld) where
    abbrev in_turn : Turn (run_glyph subrs hints c) old subrs hints rest top' t (state_of m (left_of a) inv.marks) now
    in_turn = turn inv.turns rest top are top' t next

    abbrev in_mirror : MirrorTurn (run_glyph subrs hints c) (run_glyph subrs Kept c) subrs hints Kept one rest top' t (state_of m (left_of a) inv.marks)
    in_mirror = mirror_turn inv.mirror rest top are top' t next

    kept_limits : (step : Step) → step_of on (state_of m' (left_of a') inv.marks) ≡ step → Keeps (left_of a - 1) step
    kept_limits step is = subst (λ step. Keeps (left_of a - 1) step) is (spent.within inv.marks inv.turns.within)

    -- it goes on, after these marks
    pub goes : (one' : Bool) (Drawn' : List Mark → Type 0) (marks : List Mark) (frames' : List Frame) →
        step_of on (state_of m' (left_of a') inv.marks) ≡ Goes (state_of m' (left_of a') marks) → Drawn' marks →
        (one' ≡ true → (one ≡ true) × (is_one on ≡ true)) → one' ≡ not (list_any is_replace marks) → frames' ≡ rest ++ top' ∷ [] →
        Between subrs hints c old one' Drawn' frames' m' now first a'
    goes one' Drawn' marks frames' is drawn stays told pushed = record {
      marks = marks;
      drawn = drawn;
      turns = on_goes in_turn frames' (state_of m' (left_of a') marks) pushed (sym is ∙ spent.step inv.marks) spent.fewer
          (kept_limits (Goes (state_of m' (left_of a') marks)) is).0;
      mirror = mirror_goes in_mirror one' frames' (state_of m' (left_of a') marks) pushed (sym is ∙ spent.step inv.marks)
          (λ h. let kept = stays h in (kept.0, sym is ∙ spent.one kept.1 inv.marks));
      told = told;
      all = inv.all;
      withheld = same ∙ inv.withheld;
    }

    -- it ends the glyph
    ended : (h : Halt) → step_of on (state_of m' (left_of a') inv.marks) ≡ Ends (ending_of h inv.marks) →
        Ended (run_glyph subrs hints c) (ending_of h inv.marks) old now inv.marks (left_of a')
    ended h is =
        subst (λ marks. Ended (run_glyph subrs hints c) (ending_of h inv.marks) old now marks (left_of a')) (ends_marks h m (left_of a) inv.marks)
        (on_end in_turn (ending_of h inv.marks) (left_of a') (stops h inv.marks) (sym is ∙ spent.step inv.marks) spent.fewer)

    pub ends_so : (h : Halt) → step_of on (state_of m' (left_of a') inv.marks) ≡ Ends (ending_of h inv.marks) → Ran h now
    ends_so h is =
        ran h (ending_of h inv.marks) now (left_of a') (sym (at_top_is h inv.marks))
        (ends_within h inv.marks (left_of a - 1) (kept_limits (Ends (ending_of h inv.marks)) is)) (ended h is)

    pub ends_spends : (h : Halt) → step_of on (state_of m' (left_of a') inv.marks) ≡ Ends (ending_of h inv.marks) → Spends a'
    ends_spends h is = spends (ending_of h inv.marks) now inv.marks a' same (ended h is)

    -- and so it does where hints are kept, if this token tells nothing apart either
    pub ends_one : (h : Halt) → step_of on (state_of m' (left_of a') inv.marks) ≡ Ends (ending_of h inv.marks) → is_one on ≡ true → one ≡ true →
        run_glyph subrs Kept c ≡ run_glyph subrs hints c
    ends_one h is alike =
        mirror_end in_mirror one (ending_of h inv.marks) (stops h inv.marks) (sym is ∙ spent.step inv.marks) (λ h. (h, sym is ∙ spent.one alike inv.marks))

    -- memory is refused after it
    pub stops_short : (a'.allowed ≤ first.allowed) × (first.allowed ≤ tokens_by hints subrs c + a'.allowed)
    stops_short =
        let more : token_limit ≤ tokens_by hints subrs c + left_of a' = on_more in_turn (left_of a') spent.fewer in
        let before : length inv.turns.left.visits + left_of a ≡ token_limit = inv.turns.left.spent in
        (omega (arith, before, spent.fewer, same, inv.withheld, inv.all), omega (arith, more, same, inv.withheld, inv.all))

  -- no more tokens are allowed, and none is withheld
  module _ (none : a.allowed ≡ 0) (top' : Frame) where
    limit_spent : a.withheld ≡ 0 → (t : Token) → Spent hints t m m (left_of a) (left_of a) (flow.Fail TooLong)
    limit_spent nothing t =
        let left : left_of a ≡ 0 = omega (arith, none, nothing) in
        record {
          step = λ marks. too_long hints t (state_of m (left_of a) marks) left;
          one = λ alike marks. too_long Kept t (state_of m (left_of a) marks) left;
          within = λ marks w. tt;
          spent = λ e. refl;
          fewer = omega (arith, left);
        }

    -- it ends so
    pub limit_so : (h : Halt) → EndsAtLimit a (frame_left top) (frame_left top') h → Ran h now
    limit_so (halt.Failed Unended) e = out e
    limit_so (halt.Failed TooLong) e = ends_so top' e.0 m a (flow.Fail TooLong) e.1 (limit_spent e.2 e.0) refl (halt.Failed TooLong) refl
    limit_so h e = absurd e

    pub limit_spends : (h : Halt) → EndsAtLimit a (frame_left top) (frame_left top') h → Spends a
    limit_spends (halt.Failed Unended) e = out_spends e a refl refl
    limit_spends (halt.Failed TooLong) e = ends_spends top' e.0 m a (flow.Fail TooLong) e.1 (limit_spent e.2 e.0) refl (halt.Failed TooLong) refl
    limit_spends h e = absurd e

    -- and so it does where hints are kept
    pub limit_one : (h : Halt) → EndsAtLimit a (frame_left top) (frame_left top') h → one ≡ true → run_glyph subrs Kept c ≡ run_glyph subrs hints c
    limit_one (halt.Failed Unended) e = out_one e
    limit_one (halt.Failed TooLong) e = ends_one top' e.0 m a (flow.Fail TooLong) e.1 (limit_spent e.2 e.0) refl (halt.Failed TooLong) refl refl
    limit_one h e = absurd e

  module _ (top' : Frame) (t : Token) (m' : Machine P) (a' : Allowance) (next : frame_left top ≡ t ∷ frame_left top') (same : a'.withheld ≡ a.withheld) where
    abbrev state_now : State
    state_now = state_of m' (left_of a') inv.marks

    abbrev turn_now : Turn (run_glyph subrs hints c) old subrs hints rest top' t (state_of m (left_of a) inv.marks) now
    turn_now = turn inv.turns rest top are top' t next

    abbrev mirror_now : MirrorTurn (run_glyph subrs hints c) (run_glyph subrs Kept c) subrs hints Kept one rest top' t (state_of m (left_of a) inv.marks)
    mirror_now = mirror_turn inv.mirror rest top are top' t next

    module _ (spent : Spent hints t m m' (left_of a) (left_of a') flow.Back) where
      -- it goes back to its caller
      pub back : (frames' : List Frame) → frames' ≡ rest → Between subrs hints c old one Drawn frames' m' now first a'
      back frames' popped = record {
        marks = inv.marks;
        drawn = inv.drawn;
        turns = on_back turn_now frames' state_now popped (spent.step inv.marks) spent.fewer (spent.within inv.marks inv.turns.within).0;
        mirror = mirror_back mirror_now one frames' state_now popped (spent.step inv.marks) (λ h. (h, spent.one refl inv.marks));
        told = inv.told;
        all = inv.all;
        withheld = same ∙ inv.withheld;
      }

      -- it goes back, and there is no caller
      ended_last : rest ≡ [] → Ended (run_glyph subrs hints c) (Back state_now) old now inv.marks (left_of a')
      ended_last none = on_last turn_now rest state_now refl none (spent.step inv.marks) spent.fewer

      pub last : rest ≡ [] → Ran (halt.Failed Unended) now
      last none = ran (halt.Failed Unended) (Back state_now) now (left_of a') refl tt (ended_last none)

      pub last_spends : rest ≡ [] → Spends a'
      last_spends none = spends (Back state_now) now inv.marks a' same (ended_last none)

      -- and so it does where hints are kept
      pub last_one : rest ≡ [] → one ≡ true → run_glyph subrs Kept c ≡ run_glyph subrs hints c
      last_one none = mirror_last mirror_now one rest state_now refl none (spent.step inv.marks) (λ h. (h, spent.one refl inv.marks))

    -- it calls, where so many levels are left
    module _ (i : ℤ) (spent : Spent hints t m m' (left_of a) (left_of a') (flow.Call i)) (index : Option ℕ)
        (levels : ℕ) (is : index ≡ index_of i) (left : levels + length rest ≡ level_limit) where
      room : levels + length (rest ++ top' ∷ []) ≡ suc level_limit
      room = omega (arith, left, length_push (rest ++ top' ∷ []) rest top' refl)

      -- the call fails
      ended_fails : (mid : List ℕ) (fault : Fault) → mid ≡ with_indices now (index_taken index) →
          ((h : Hints) (s : State) → call subrs h levels index s ≡ ends (Failed fault)) →
          Ended (run_glyph subrs hints c) (Failed fault) old mid inv.marks (left_of a')
      ended_fails mid fault took failed =
          on_fault turn_now state_now i index (rest ++ top' ∷ []) levels mid (spent.step inv.marks) spent.fewer is refl room took fault (failed hints state_now)

      pub fails_so : (mid : List ℕ) (fault : Fault) → mid ≡ with_indices now (index_taken index) →
          ((h : Hints) (s : State) → call subrs h levels index s ≡ ends (Failed fault)) → Ran (halt.Failed fault) mid
      fails_so mid fault took failed = ran (halt.Failed fault) (Failed fault) mid (left_of a') refl tt (ended_fails mid fault took failed)

      pub fails_spends : (mid : List ℕ) (fault : Fault) → mid ≡ with_indices now (index_taken index) →
          ((h : Hints) (s : State) → call subrs h levels index s ≡ ends (Failed fault)) → Spends a'
      fails_spends mid fault took failed = spends (Failed fault) mid inv.marks a' same (ended_fails mid fault took failed)

      -- and so it does where hints are kept
      pub fails_one : (fault : Fault) → ((h : Hints) (s : State) → call subrs h levels index s ≡ ends (Failed fault)) → one ≡ true →
          run_glyph subrs Kept c ≡ run_glyph subrs hints c
      fails_one fault failed =
          mirror_fault mirror_now one state_now i index (rest ++ top' ∷ []) levels (spent.step inv.marks)
          (λ h. (h, spent.one refl inv.marks)) is refl room fault (λ h. failed h state_now)

      -- the Subr is on top
      pub calls : (mid c' : List ℕ) (g : Frame) (call_stack frames' : List Frame) → mid ≡ with_indices now (index_taken index) →
          (0 < levels) × (charstring_at subrs index ≡ Some c') → frame_left g ≡ tokens c' → call_stack ≡ rest ++ top' ∷ [] → frames' ≡ call_stack ++ g ∷ [] →
          Between subrs hints c old one Drawn frames' m' mid first a'
      calls mid c' g call_stack frames' took enters all pushed entered =
          let frames_are : frames' ≡ (rest ++ top' ∷ []) ++ g ∷ [] = entered ∙ ap (λ (fs : List Frame). fs ++ g ∷ []) pushed in
          record {
            marks = inv.marks;
            drawn = inv.drawn;
            turns = on_call turn_now state_now i index (rest ++ top' ∷ []) frames' levels mid c' g
                (spent.step inv.marks) spent.fewer is refl room took frames_are enters all (spent.within inv.marks inv.turns.within).0;
            mirror = mirror_call mirror_now one state_now i index (rest ++ top' ∷ []) frames' levels c' g
                (spent.step inv.marks) (λ h. (h, spent.one refl inv.marks)) is refl room frames_are enters all;
            told = inv.told;
            all = inv.all;
            withheld = same ∙ inv.withheld;
          }
