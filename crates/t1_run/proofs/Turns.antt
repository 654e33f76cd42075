-- One turn of a run: the next token of the frame on top, and what it makes of the frames.
use Rattle.std.proofs.Common.{◌≡◌, refl, sym, ap, subst, ◌∙◌, ℕ, zero, suc, ◌+◌, ◌-◌, ◌<◌, ◌≤◌, List, [], ◌∷◌, ◌++◌, map, length, take, length-append, append_assoc, reverse, ℤ, Option, Some, arith}
use Rattle.std.proofs.lemmas.List.{map-append, append-nil, reverse-append, take_at}
use Rattle.t1_char.specs.{declared.token.Token.{Token}, Tokens.{tokens}}
use Rattle.t1_run.specs.{declared.frames.Frame.{Frame}, declared.answer.Fault.{Fault}, declared.answer.Fault.TheVariants.{Unended, TooLong}, declared.answer.Mark.{Mark}, declared.answer.Hints.{Hints}}
use Rattle.t1_run.specs.{State.{State, Ending, Back, Failed, token_limit}, Rules.{Step, Goes, Ends, Calls}}
use Rattle.t1_run.specs.Run.{Subrs, Visit, Outcome, ends, after, visiting, deeper, visit, index_taken, index_of, charstring_at, enter, then_run, resume, follow, spend, run, level_limit, call}
use Rattle.t1_run.specs.{Run.{with_indices, marks_after, marks_by}, Frames.{frame_left, lists_of, deeper_by, run_frames}, Limits.{IsWithinLimits}}
use Rattle.t1_run.proofs.Indices.{with_indices-append}
use Rattle.t1_run.proofs.Resumed.{resume_after, resume_visiting, resume_twice, resume_nothing, deeper_by-resume, deeper_by-ends, deeper_by-after, deeper_by-visiting, visits_by, none_by, one_by}
use Rattle.t1_run.proofs.{Resumed.{marks_by-append, length_by}, Spending.{visit_leaves}}

-- ---- what the next token of the list on top makes of a run of lists

-- the visits of a token of the list on top
abbrev pub seen : List (List Token) → State → Step → List Visit
seen below s step = visits_by (length below) (visit s step)

-- they leave the marks that there are after it
seen_marks : (below : List (List Token)) (s : State) (step : Step) → marks_by s.marks (seen below s step) ≡ marks_after s step
seen_marks below s (Ends (Failed TooLong)) = none_by (length below) s.marks
seen_marks below s step = one_by (length below) s.marks (record { depth = 0; state = s; marks = marks_after s step })

-- a call by the list on top, and from its Back the run of the lists
abbrev pub call_on : Subrs → Hints → ℕ → List (List Token) → Option ℕ → State → Outcome
call_on subrs hints levels lists index s = resume (deeper_by (length lists) (call subrs hints levels index s)) (run_frames subrs hints levels lists)

module _ (subrs : Subrs) (hints : Hints) (levels : ℕ) (below : List (List Token)) where
  abbrev below_runs : State → Outcome
  below_runs = run_frames subrs hints (suc levels) below

  -- there is none
  pub none_left : (s : State) → run_frames subrs hints levels ([] ∷ below) s ≡ ends (Failed Unended)
  none_left s = ap (λ (o : Outcome). resume o below_runs) (deeper_by-ends (length below) (Failed Unended))

  module _ (t : Token) (ts : List Token) (s : State) where
    abbrev lists_run : Outcome
    lists_run = run_frames subrs hints levels ((t ∷ ts) ∷ below) s

    -- its visit comes first, and then what its step leaves
    token_steps : (step : Step) → step ≡ spend hints t s → lists_run
        ≡ visiting (seen below s step) (resume (deeper_by (length below) (follow (call subrs hints levels) (run subrs hints levels ts) step)) below_runs)
    token_steps step e =
        let on : Step → Outcome = follow (call subrs hints levels) (run subrs hints levels ts) in
        ap (λ (x : Step). resume (deeper_by (length below) (visiting (visit s x) (on x))) below_runs) (sym e)
        ∙ ap (λ (o : Outcome). resume o below_runs) (deeper_by-visiting (length below) (visit s step) (on step))
        ∙ resume_visiting (seen below s step) (deeper_by (length below) (on step)) below_runs

    -- it goes on, and so does its list
    pub token_goes : (s' : State) → Goes s' ≡ spend hints t s → lists_run ≡ visiting (seen below s (Goes s')) (run_frames subrs hints levels (ts ∷ below) s')
    token_goes s' e = token_steps (Goes s') e

    -- it ends its list, and from a Back the lists below go on
    pub token_ends : (end : Ending) → Ends end ≡ spend hints t s → lists_run ≡ visiting (seen below s (Ends end)) (then_run end below_runs)
    token_ends end e =
        token_steps (Ends end) e ∙ ap (λ (o : Outcome). visiting (seen below s (Ends end)) (resume o below_runs)) (deeper_by-ends (length below) end)

    -- it calls, and from a Back of the call its list goes on
    pub token_calls : (s' : State) (i : ℤ) → Calls i s' ≡ spend hints t s →
        lists_run ≡ visiting (seen below s (Calls i s')) (after (index_taken (index_of i)) (call_on subrs hints levels (ts ∷ below) (index_of i) s'))
    token_calls s' i e =
        let called : Outcome = call subrs hints levels (index_of i) s' in
        let on : State → Outcome = run subrs hints levels ts in
        let n : ℕ = length below in
        token_steps (Calls i s') e
        ∙ ap (visiting (seen below s (Calls i s')))
        (ap (λ (o : Outcome). resume o below_runs)
        (deeper_by-after n (index_taken (index_of i)) (resume (deeper called) on)
        ∙ ap (after (index_taken (index_of i))) (deeper_by-resume n (deeper called) on))
        ∙ resume_after (index_taken (index_of i)) (resume (deeper_by (suc n) called) (λ s. deeper_by n (on s))) below_runs
        ∙ ap (after (index_taken (index_of i))) (resume_twice (deeper_by (suc n) called) (λ s. deeper_by n (on s)) below_runs))

module _ (subrs : Subrs) (hints : Hints) (lists : List (List Token)) (index : Option ℕ) (s : State) where
  -- a call that fails ends the run
  pub call_fails : (levels : ℕ) (fault : Fault) → call subrs hints levels index s ≡ ends (Failed fault) →
      call_on subrs hints levels lists index s ≡ ends (Failed fault)
  call_fails levels fault e =
      ap (λ (o : Outcome). resume o (run_frames subrs hints levels lists)) (ap (deeper_by (length lists)) e ∙ deeper_by-ends (length lists) (Failed fault))

  -- a call of a Subr puts its tokens on top, where calls may be one level less deep
  pub call_enters : (levels : ℕ) (c : List ℕ) → charstring_at subrs index ≡ Some c →
      call_on subrs hints (suc levels) lists index s ≡ run_frames subrs hints levels (tokens c ∷ lists) s
  call_enters levels c e =
      ap (λ (o : Option (List ℕ)). resume (deeper_by (length lists) (enter o (run subrs hints levels) s)) (run_frames subrs hints (suc levels) lists)) e

-- ---- what is left of a whole run

-- It is the calls and visits so far, and then this; the set `now` has these calls beside `old`, these are the marks, and so many tokens may still be executed.
pub record Leaves (whole : Outcome) (old : List ℕ) (rest : Outcome) (now : List ℕ) (marks : List Mark) (left : ℕ) : Type 0 where
  pub calls : List ℕ
  pub visits : List Visit
  pub goes : whole ≡ after calls (visiting visits rest)
  pub took : now ≡ with_indices old calls
  pub made : marks ≡ marks_by [] visits
  pub spent : length visits + left ≡ token_limit

-- Between two turns that is the run of the frames, the top of which may call so many levels deeper, from a state within the limits.
pub record Turns (whole : Outcome) (old : List ℕ) (subrs : Subrs) (hints : Hints) (frames : List Frame) (s : State) (now : List ℕ) : Type 0 where
  pub levels : ℕ
  pub depth : levels + length frames ≡ suc level_limit
  pub left : Leaves whole old (run_frames subrs hints levels (lists_of frames) s) now s.marks s.allowed
  pub within : IsWithinLimits s

-- The whole run ended so after these marks, its calls made the new set of the old, and so many tokens might still have been executed.
pub record Ended (whole : Outcome) (end : Ending) (old now : List ℕ) (marks : List Mark) (left : ℕ) : Type 0 where
  pub ends_so : end ≡ whole.ending
  pub called : now ≡ with_indices old whole.indices
  pub made : marks ≡ marks_by [] whole.visits
  pub spent : length whole.visits + left ≡ token_limit

-- In a turn the token t of the frame on top is next; f is that frame after it, and below it is the rest.
pub record Turn (whole : Outcome) (old : List ℕ) (subrs : Subrs) (hints : Hints) (rest : List Frame) (f : Frame) (t : Token) (s : State) (now : List ℕ) :
    Type 0 where
  pub levels : ℕ
  pub depth : levels + (length rest + 1) ≡ suc level_limit
  pub left : Leaves whole old (run_frames subrs hints levels ((t ∷ frame_left f) ∷ lists_of rest) s) now s.marks s.allowed

module _ {whole : Outcome} {old : List ℕ} where
  left_as : (a b : Outcome) (now : List ℕ) (marks : List Mark) (left : ℕ) → a ≡ b → Leaves whole old a now marks left → Leaves whole old b now marks left
  left_as a b now marks left e k = record {
    calls = k.calls;
    visits = k.visits;
    goes = k.goes ∙ ap (λ (o : Outcome). after k.calls (visiting k.visits o)) e;
    took = k.took;
    made = k.made;
    spent = k.spent;
  }

  -- after more visits and calls
  left_after : (visits : List Visit) (more : List ℕ) (a o : Outcome) (now mid : List ℕ) (marks marks' : List Mark) (left left' : ℕ) →
      a ≡ visiting visits (after more o) → mid ≡ with_indices now more → marks_by marks visits ≡ marks' → length visits + left' ≡ left →
      Leaves whole old a now marks left → Leaves whole old o mid marks' left'
  left_after visits more a o now mid marks marks' left left' e m made takes k =
      let so_far : Outcome → Outcome = λ (o : Outcome). after k.calls (visiting k.visits o) in
      let moved : so_far (visiting visits (after more o)) ≡ after (k.calls ++ more) (visiting (k.visits ++ visits) o) =
      λ i. record { ending = o.ending; indices = sym (append_assoc k.calls more o.indices) i; visits = sym (append_assoc k.visits visits o.visits) i }
      in
      record {
        calls = k.calls ++ more;
        visits = k.visits ++ visits;
        goes = k.goes ∙ ap so_far e ∙ moved;
        took = m ∙ ap (λ (set : List ℕ). with_indices set more) k.took ∙ sym (with_indices-append old k.calls more);
        made = sym made ∙ ap (λ (ms : List Mark). marks_by ms visits) k.made ∙ sym (marks_by-append [] k.visits visits);
        spent = let all : length (k.visits ++ visits) ≡ length k.visits + length visits = length-append k.visits visits in omega (arith, all, takes, k.spent);
      }

  left_ends : (end : Ending) (a : Outcome) (now : List ℕ) (marks : List Mark) (left : ℕ) → a ≡ ends end → Leaves whole old a now marks left →
      Ended whole end old now marks left
  left_ends end a now marks left e k =
      let goes : whole ≡ after k.calls (visiting k.visits (ends end)) = k.goes ∙ ap (λ (o : Outcome). after k.calls (visiting k.visits o)) e in
      record {
        ends_so = ap (λ (o : Outcome). o.ending) (sym goes);
        called = k.took ∙ ap (with_indices old) (sym (append-nil k.calls)) ∙ ap (λ (o : Outcome). with_indices old o.indices) (sym goes);
        made = k.made ∙ ap (marks_by []) (sym (append-nil k.visits)) ∙ ap (λ (o : Outcome). marks_by [] o.visits) (sym goes);
        spent = ap (λ (o : Outcome). length o.visits + left) goes ∙ ap (λ (visits : List Visit). length visits + left) (append-nil k.visits) ∙ k.spent;
      }

  -- these visits are among those of the whole
  left_more : (visits : List Visit) (a o : Outcome) (now : List ℕ) (marks : List Mark) (left : ℕ) → a ≡ visiting visits o →
      Leaves whole old a now marks left → token_limit + length visits ≤ length whole.visits + left
  left_more visits a o now marks left e k =
      let goes : whole ≡ after k.calls (visiting k.visits (visiting visits o)) = k.goes ∙ ap (λ (o : Outcome). after k.calls (visiting k.visits o)) e in
      let all : length whole.visits ≡ length (k.visits ++ (visits ++ o.visits)) = ap (λ (o : Outcome). length o.visits) goes in
      let first : length (k.visits ++ (visits ++ o.visits)) ≡ length k.visits + length (visits ++ o.visits) = length-append k.visits (visits ++ o.visits) in
      let then : length (visits ++ o.visits) ≡ length visits + length o.visits = length-append visits o.visits in
      omega (arith, all, first, then, k.spent)

-- ---- turns of the frames

-- a frame that is pushed is the first of the lists
pub lists_push : (frames rest : List Frame) (f : Frame) → frames ≡ rest ++ f ∷ [] → lists_of frames ≡ frame_left f ∷ lists_of rest
lists_push frames rest f pushed =
    ap lists_of pushed ∙ ap reverse (map-append frame_left rest (f ∷ [])) ∙ reverse-append (map frame_left rest) (frame_left f ∷ [])

-- a frame that is pushed is one more
pub length_push : (frames rest : List Frame) (f : Frame) → frames ≡ rest ++ f ∷ [] → length frames ≡ length rest + 1
length_push frames rest f pushed = ap length pushed ∙ length-append rest (f ∷ [])

-- there is a frame on top
pub some_pushed : (frames rest : List Frame) (f : Frame) → frames ≡ rest ++ f ∷ [] → 0 < length frames
some_pushed frames rest f pushed = let few : length frames ≡ length rest + 1 = length_push frames rest f pushed in omega (arith, few)

-- what is left of frames without the one on top
pub without_top : (frames rest : List Frame) (f : Frame) → frames ≡ rest ++ f ∷ [] → take (length frames - 1) frames ≡ rest
without_top frames rest f pushed =
    let few : length frames ≡ length rest + 1 = length_push frames rest f pushed in
    ap (take (length frames - 1)) pushed ∙ take_at rest (f ∷ []) (length frames - 1) (omega (arith, few))

-- before the first turn the glyph's frame stands alone
pub begins : (subrs : Subrs) (hints : Hints) (c : List ℕ) (s : State) (old : List ℕ) (frames : List Frame) (f : Frame) → frames ≡ [] ++ f ∷ [] →
    frame_left f ≡ tokens c → s.marks ≡ [] → s.allowed ≡ token_limit → IsWithinLimits s →
    Turns (run subrs hints level_limit (tokens c) s) old subrs hints frames s old
begins subrs hints c s old frames f first all none fresh within =
    let goes : run subrs hints level_limit (tokens c) s ≡ run_frames subrs hints level_limit (lists_of frames) s =
    sym (ap (λ (lists : List (List Token)). run_frames subrs hints level_limit lists s) (lists_push frames [] f first ∙ ap (λ (ts : List Token). ts ∷ []) all)
    ∙ resume_nothing (run subrs hints level_limit (tokens c) s))
    in
    record {
      levels = level_limit;
      depth = ap (λ n. level_limit + n) (length_push frames [] f first);
      left = record { calls = []; visits = []; goes = goes; took = refl; made = none; spent = omega (arith, fresh) };
      within = within;
    }

module _ {whole : Outcome} {old : List ℕ} {subrs : Subrs} {hints : Hints} {frames : List Frame} {s : State} {now : List ℕ}
    (inv : Turns whole old subrs hints frames s now) (rest : List Frame) (f : Frame) (popped : frames ≡ rest ++ f ∷ []) where
  top : (ts : List Token) → frame_left f ≡ ts → Leaves whole old (run_frames subrs hints inv.levels (ts ∷ lists_of rest) s) now s.marks s.allowed
  top ts e =
      let lists : lists_of frames ≡ ts ∷ lists_of rest = lists_push frames rest f popped ∙ ap (λ (ts : List Token). ts ∷ lists_of rest) e in
      left_as (run_frames subrs hints inv.levels (lists_of frames) s) (run_frames subrs hints inv.levels (ts ∷ lists_of rest) s) now s.marks s.allowed
      (ap (λ (lists : List (List Token)). run_frames subrs hints inv.levels lists s) lists) inv.left

  -- no token is left on top
  pub runs_out : frame_left f ≡ [] → Ended whole (Failed Unended) old now s.marks s.allowed
  runs_out none = left_ends (Failed Unended) (run_frames subrs hints inv.levels ([] ∷ lists_of rest) s) now s.marks s.allowed
      (none_left subrs hints inv.levels (lists_of rest) s) (top [] none)

  -- the frame on top gives its next token
  pub turn : (f' : Frame) (t : Token) → frame_left f ≡ t ∷ frame_left f' → Turn whole old subrs hints rest f' t s now
  turn f' t next =
      record { levels = inv.levels; depth = ap (λ n. inv.levels + n) (sym (length_push frames rest f popped)) ∙ inv.depth; left = top (t ∷ frame_left f') next }

module _ {whole : Outcome} {old : List ℕ} {subrs : Subrs} {hints : Hints} {rest : List Frame} {f : Frame}
    {t : Token} {s : State} {now : List ℕ} (in_turn : Turn whole old subrs hints rest f t s now) where
  abbrev lists_now : Outcome
  lists_now = run_frames subrs hints in_turn.levels ((t ∷ frame_left f) ∷ lists_of rest) s

  -- however it goes on, it takes one of the tokens that were left
  takes : (step : Step) (left : ℕ) → step ≡ spend hints t s → left ≡ s.allowed - 1 → length (seen (lists_of rest) s step) + left ≡ s.allowed
  takes step left e fewer =
      ap (λ n. n + left) (length_by (length (lists_of rest)) (visit s step)) ∙ visit_leaves hints t s step left e fewer

  -- it is among those of the whole run
  pub on_more : (left : ℕ) → left ≡ s.allowed - 1 → token_limit ≤ length whole.visits + left
  on_more left fewer =
      let visits : List Visit = seen (lists_of rest) s (spend hints t s) in
      let more : token_limit + length visits ≤ length whole.visits + s.allowed =
      left_more visits lists_now _ now s.marks s.allowed
      (token_steps subrs hints in_turn.levels (lists_of rest) t (frame_left f) s (spend hints t s) refl) in_turn.left
      in
      let one : length visits + left ≡ s.allowed = takes (spend hints t s) left refl fewer in
      omega (arith, more, one)

  -- the token goes on: its frame stays
  pub on_goes : (frames : List Frame) (s' : State) → frames ≡ rest ++ f ∷ [] → Goes s' ≡ spend hints t s → s'.allowed ≡ s.allowed - 1 → IsWithinLimits s' →
      Turns whole old subrs hints frames s' now
  on_goes frames s' pushed e fewer within =
      let goes : lists_now ≡ visiting (seen (lists_of rest) s (Goes s')) (run_frames subrs hints in_turn.levels (lists_of frames) s') =
      token_goes subrs hints in_turn.levels (lists_of rest) t (frame_left f) s s' e
      ∙ ap (λ (lists : List (List Token)). visiting (seen (lists_of rest) s (Goes s')) (run_frames subrs hints in_turn.levels lists s'))
      (sym (lists_push frames rest f pushed))
      in
      record {
        levels = in_turn.levels;
        depth = ap (λ n. in_turn.levels + n) (length_push frames rest f pushed) ∙ in_turn.depth;
        left = left_after (seen (lists_of rest) s (Goes s')) [] lists_now (run_frames subrs hints in_turn.levels
            (lists_of frames) s') now now s.marks s'.marks s.allowed s'.allowed goes refl (seen_marks (lists_of rest) s (Goes s'))
            (takes (Goes s') s'.allowed e fewer) in_turn.left;
        within = within;
      }

  -- it goes back: its frame is gone
  pub on_back : (frames : List Frame) (s' : State) → frames ≡ rest → Ends (Back s') ≡ spend hints t s → s'.allowed ≡ s.allowed - 1 → IsWithinLimits s' →
      Turns whole old subrs hints frames s' now
  on_back frames s' popped e fewer within =
      subst (λ (frames : List Frame). Turns whole old subrs hints frames s' now) (sym popped)
      (record {
        levels = suc in_turn.levels;
        depth = omega (arith, in_turn.depth);
        left = left_after (seen (lists_of rest) s (Ends (Back s'))) [] lists_now
            (run_frames subrs hints (suc in_turn.levels) (lists_of rest) s') now now s.marks s'.marks s.allowed s'.allowed
            (token_ends subrs hints in_turn.levels (lists_of rest) t (frame_left f) s (Back s') e) refl
            (seen_marks (lists_of rest) s (Ends (Back s'))) (takes (Ends (Back s')) s'.allowed e fewer) in_turn.left;
        within = within;
      })

  -- it goes back, and no frame is left
  pub on_last : (frames : List Frame) (s' : State) → frames ≡ rest → frames ≡ [] → Ends (Back s') ≡ spend hints t s → s'.allowed ≡ s.allowed - 1 →
      Ended whole (Back s') old now s'.marks s'.allowed
  on_last frames s' popped none e fewer =
      let below_run : List Frame → Outcome = λ (frames : List Frame). run_frames subrs hints (suc in_turn.levels) (lists_of frames) s' in
      left_ends (Back s') (below_run rest) now s'.marks s'.allowed (ap below_run (sym popped ∙ none))
      (left_after (seen (lists_of rest) s (Ends (Back s'))) [] lists_now (below_run rest) now now s.marks s'.marks s.allowed s'.allowed
      (token_ends subrs hints in_turn.levels (lists_of rest) t (frame_left f) s (Back s') e) refl
      (seen_marks (lists_of rest) s (Ends (Back s'))) (takes (Ends (Back s')) s'.allowed e fewer) in_turn.left)

  -- it ends the glyph
  pub on_end : (end : Ending) (left : ℕ) → ((g : State → Outcome) → then_run end g ≡ ends end) → Ends end ≡ spend hints t s → left ≡ s.allowed - 1 →
      Ended whole end old now (marks_after s (Ends end)) left
  on_end end left stops e fewer =
      let below_run : State → Outcome = run_frames subrs hints (suc in_turn.levels) (lists_of rest) in
      left_ends end (then_run end below_run) now (marks_after s (Ends end)) left (stops below_run)
      (left_after (seen (lists_of rest) s (Ends end)) [] lists_now (then_run end below_run) now now s.marks (marks_after s (Ends end)) s.allowed left
      (token_ends subrs hints in_turn.levels (lists_of rest) t (frame_left f) s end e) refl (seen_marks (lists_of rest) s (Ends end))
      (takes (Ends end) left e fewer) in_turn.left)

  -- it calls, where so many levels are left above its frame
  module _ (s' : State) (i : ℤ) (index : Option ℕ) (call_stack : List Frame) (levels : ℕ) (mid : List ℕ)
      (e : Calls i s' ≡ spend hints t s) (fewer : s'.allowed ≡ s.allowed - 1) (is : index ≡ index_of i) (pushed : call_stack ≡ rest ++ f ∷ [])
      (room : levels + length call_stack ≡ suc level_limit) (took : mid ≡ with_indices now (index_taken index)) where
    called : Leaves whole old (call_on subrs hints levels (lists_of call_stack) index s') mid s'.marks s'.allowed
    called =
        let visits : List Visit = seen (lists_of rest) s (Calls i s') in
        let same : in_turn.levels ≡ levels = omega (arith, in_turn.depth, room, length_push call_stack rest f pushed) in
        let goes : lists_now ≡ visiting visits (after (index_taken index) (call_on subrs hints levels (lists_of call_stack) index s')) =
        token_calls subrs hints in_turn.levels (lists_of rest) t (frame_left f) s s' i e
        ∙ ap (λ (index : Option ℕ). visiting visits (after (index_taken index) (call_on subrs hints in_turn.levels (frame_left f ∷ lists_of rest) index s')))
        (sym is)
        ∙ ap (λ (lists : List (List Token)). visiting visits (after (index_taken index) (call_on subrs hints in_turn.levels lists index s')))
        (sym (lists_push call_stack rest f pushed))
        ∙ ap (λ n. visiting visits (after (index_taken index) (call_on subrs hints n (lists_of call_stack) index s'))) same
        in
        left_after visits (index_taken index) lists_now (call_on subrs hints levels (lists_of call_stack) index s') now mid s.marks s'.marks
        s.allowed s'.allowed goes took (seen_marks (lists_of rest) s (Calls i s')) (takes (Calls i s') s'.allowed e fewer) in_turn.left

    -- the call fails
    pub on_fault : (fault : Fault) → call subrs hints levels index s' ≡ ends (Failed fault) → Ended whole (Failed fault) old mid s'.marks s'.allowed
    on_fault fault failed = left_ends (Failed fault) (call_on subrs hints levels (lists_of call_stack) index s') mid s'.marks s'.allowed
        (call_fails subrs hints (lists_of call_stack) index s' levels fault failed) called

  -- a Subr is called: its frame is on top
  pub on_call : (s' : State) (i : ℤ) (index : Option ℕ) (call_stack frames : List Frame) (levels : ℕ) (mid c : List ℕ) (g : Frame) →
      Calls i s' ≡ spend hints t s →
      s'.allowed ≡ s.allowed - 1 →
      index ≡ index_of i → call_stack ≡ rest ++ f ∷ [] → levels + length call_stack ≡ suc level_limit → mid ≡ with_indices now (index_taken index) →
      frames ≡ call_stack ++ g ∷ [] → (0 < levels) × (charstring_at subrs index ≡ Some c) → frame_left g ≡ tokens c → IsWithinLimits s' →
      Turns whole old subrs hints frames s' mid
  on_call s' i index call_stack frames zero mid c g e fewer is pushed room took entered enters all within = absurd (omega (arith, enters.0))
  on_call s' i index call_stack frames (suc levels) mid c g e fewer is pushed room took entered enters all within =
      let lists : lists_of frames ≡ tokens c ∷ lists_of call_stack =
      lists_push frames call_stack g entered ∙ ap (λ (ts : List Token). ts ∷ lists_of call_stack) all in
      let goes : call_on subrs hints (suc levels) (lists_of call_stack) index s' ≡ run_frames subrs hints levels (lists_of frames) s' =
      call_enters subrs hints (lists_of call_stack) index s' levels c enters.1
      ∙ ap (λ (lists : List (List Token)). run_frames subrs hints levels lists s') (sym lists)
      in
      record {
        levels = levels;
        depth = omega (arith, room, length_push frames call_stack g entered);
        left = left_as (call_on subrs hints (suc levels) (lists_of call_stack) index s')
            (run_frames subrs hints levels (lists_of frames) s') mid s'.marks s'.allowed goes
            (called s' i index call_stack (suc levels) mid e fewer is pushed room took);
        within = within;
      }
