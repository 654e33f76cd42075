-- Runs where hints are replaced and where they are kept: one turn after the other they are one run, as long as no token tells them apart.
use Rattle.std.proofs.Common.{◌≡◌, refl, sym, ap, ◌∙◌, ℕ, zero, suc, ◌+◌, ◌<◌, Bool, true, List, [], ◌∷◌, ◌++◌, length, ℤ, Option, Some, arith}
use Rattle.t1_char.specs.{declared.token.Token.{Token}, Tokens.{tokens}}
use Rattle.t1_run.specs.{declared.frames.Frame.{Frame}, declared.answer.Fault.{Fault}, declared.answer.Hints.{Hints}, State.{State, Ending, Back, Failed}, Rules.{Step, Goes, Ends, Calls}}
use Rattle.t1_run.specs.{Run.{Subrs, Visit, Outcome, ends, after, visiting, index_taken, index_of, charstring_at, then_run, spend, run, level_limit, call}, Frames.{frame_left, lists_of, run_frames}}
use Rattle.t1_run.proofs.{Resumed.{resume_nothing}, Turns.{seen, call_on, none_left, token_goes, token_ends, token_calls, call_fails, call_enters, lists_push, length_push}}

-- Between two turns: where nothing told the runs apart so far, they are one run if what is left of them is.
pub record Mirror (whole whole' : Outcome) (subrs : Subrs) (hints other : Hints) (one : Bool) (frames : List Frame) (s : State) : Type 0 where
  pub levels : ℕ
  pub depth : levels + length frames ≡ suc level_limit
  pub mirrors : one ≡ true → run_frames subrs other levels (lists_of frames) s ≡ run_frames subrs hints levels (lists_of frames) s → whole' ≡ whole

-- In a turn the token t of the frame on top is next; f is that frame after it, and below it is the rest.
pub record MirrorTurn (whole whole' : Outcome) (subrs : Subrs) (hints other : Hints) (one : Bool) (rest : List Frame) (f : Frame) (t : Token) (s : State) :
    Type 0 where
  pub levels : ℕ
  pub depth : levels + (length rest + 1) ≡ suc level_limit
  pub mirrors : one ≡ true → run_frames subrs other levels ((t ∷ frame_left f) ∷ lists_of rest) s
      ≡ run_frames subrs hints levels ((t ∷ frame_left f) ∷ lists_of rest) s → whole' ≡ whole

-- before the first turn the glyph's frame stands alone
pub mirror_begins : (subrs : Subrs) (hints other : Hints) (c : List ℕ) (s : State) (frames : List Frame) (f : Frame) → frames ≡ [] ++ f ∷ [] →
    frame_left f ≡ tokens c → Mirror (run subrs hints level_limit (tokens c) s) (run subrs other level_limit (tokens c) s) subrs hints other true frames s
mirror_begins subrs hints other c s frames f first all =
    let goes : (h : Hints) → run_frames subrs h level_limit (lists_of frames) s ≡ run subrs h level_limit (tokens c) s = λ h.
    ap (λ (lists : List (List Token)). run_frames subrs h level_limit lists s) (lists_push frames [] f first ∙ ap (λ (ts : List Token). ts ∷ []) all)
    ∙ resume_nothing (run subrs h level_limit (tokens c) s)
    in
    record {
      levels = level_limit;
      depth = ap (λ n. level_limit + n) (length_push frames [] f first);
      mirrors = λ one e. sym (goes other) ∙ e ∙ goes hints;
    }

module _ {whole whole' : Outcome} {subrs : Subrs} {hints other : Hints} {one : Bool} {frames : List Frame} {s : State}
    (m : Mirror whole whole' subrs hints other one frames s) (rest : List Frame) (f : Frame) (popped : frames ≡ rest ++ f ∷ []) where
  runs_top : (h : Hints) (ts : List Token) → frame_left f ≡ ts →
      run_frames subrs h m.levels (lists_of frames) s ≡ run_frames subrs h m.levels (ts ∷ lists_of rest) s
  runs_top h ts e =
      ap (λ (lists : List (List Token)). run_frames subrs h m.levels lists s) (lists_push frames rest f popped ∙ ap (λ (ts : List Token). ts ∷ lists_of rest) e)

  -- no token is left on top
  pub mirror_out : frame_left f ≡ [] → one ≡ true → whole' ≡ whole
  mirror_out none is_one =
      m.mirrors is_one (runs_top other [] none ∙ none_left subrs other m.levels (lists_of rest) s
      ∙ sym (runs_top hints [] none ∙ none_left subrs hints m.levels (lists_of rest) s))

  -- the frame on top gives its next token
  pub mirror_turn : (f' : Frame) (t : Token) → frame_left f ≡ t ∷ frame_left f' → MirrorTurn whole whole' subrs hints other one rest f' t s
  mirror_turn f' t next = record {
    levels = m.levels;
    depth = ap (λ n. m.levels + n) (sym (length_push frames rest f popped)) ∙ m.depth;
    mirrors = λ is_one e. m.mirrors is_one (runs_top other (t ∷ frame_left f') next ∙ e ∙ sym (runs_top hints (t ∷ frame_left f') next));
  }

-- where nothing tells the runs apart after the token, nothing did before it, and the token does this in the other run too
abbrev pub Stays : Hints → Bool → Bool → Token → State → Step → Type 0
Stays other one one' t s step = one' ≡ true → (one ≡ true) × (step ≡ spend other t s)

module _ {whole whole' : Outcome} {subrs : Subrs} {hints other : Hints} {one : Bool} {rest : List Frame} {f : Frame}
    {t : Token} {s : State} (in_turn : MirrorTurn whole whole' subrs hints other one rest f t s) (one' : Bool) where
  abbrev lists_by : Hints → Outcome
  lists_by h = run_frames subrs h in_turn.levels ((t ∷ frame_left f) ∷ lists_of rest) s

  -- what a token makes of both runs, by what follows it in each
  mirrored : (F : Outcome → Outcome) (left : Hints → Outcome) (step : Step) → step ≡ spend hints t s → Stays other one one' t s step →
      ((h : Hints) → step ≡ spend h t s → lists_by h ≡ F (left h)) → one' ≡ true → left other ≡ left hints → whole' ≡ whole
  mirrored F left step e stays goes is_one k =
      let same = stays is_one in
      in_turn.mirrors same.0 (goes other same.1 ∙ ap F k ∙ sym (goes hints e))

  -- it goes on: its frame stays
  pub mirror_goes : (frames : List Frame) (s' : State) → frames ≡ rest ++ f ∷ [] → Goes s' ≡ spend hints t s → Stays other one one' t s (Goes s') →
      Mirror whole whole' subrs hints other one' frames s'
  mirror_goes frames s' pushed e stays = record {
    levels = in_turn.levels;
    depth = ap (λ n. in_turn.levels + n) (length_push frames rest f pushed) ∙ in_turn.depth;
    mirrors = mirrored (visiting (seen (lists_of rest) s (Goes s'))) (λ h. run_frames subrs h in_turn.levels (lists_of frames) s') (Goes s') e stays
        (λ h is. token_goes subrs h in_turn.levels (lists_of rest) t (frame_left f) s s' is
        ∙ ap (λ (lists : List (List Token)). visiting (seen (lists_of rest) s (Goes s')) (run_frames subrs h in_turn.levels lists s'))
        (sym (lists_push frames rest f pushed)));
  }

  -- it goes back: its frame is gone
  pub mirror_back : (frames : List Frame) (s' : State) → frames ≡ rest → Ends (Back s') ≡ spend hints t s → Stays other one one' t s (Ends (Back s')) →
      Mirror whole whole' subrs hints other one' frames s'
  mirror_back frames s' popped e stays = record {
    levels = suc in_turn.levels;
    depth = ap (λ (frames : List Frame). suc in_turn.levels + length frames) popped ∙ omega (arith, in_turn.depth);
    mirrors = mirrored (visiting (seen (lists_of rest) s (Ends (Back s'))))
        (λ h. run_frames subrs h (suc in_turn.levels) (lists_of frames) s') (Ends (Back s')) e stays
        (λ h is. token_ends subrs h in_turn.levels (lists_of rest) t (frame_left f) s (Back s') is
        ∙ ap (λ (frames : List Frame). visiting (seen (lists_of rest) s (Ends (Back s'))) (run_frames subrs h (suc in_turn.levels) (lists_of frames) s'))
        (sym popped));
  }

  -- it goes back, and no frame is left
  pub mirror_last : (frames : List Frame) (s' : State) → frames ≡ rest → frames ≡ [] →
      Ends (Back s') ≡ spend hints t s → Stays other one one' t s (Ends (Back s')) → one' ≡ true → whole' ≡ whole
  mirror_last frames s' popped none e stays is_one =
      mirrored (visiting (seen (lists_of rest) s (Ends (Back s')))) (λ h. ends (Back s')) (Ends (Back s')) e stays
      (λ h is. token_ends subrs h in_turn.levels (lists_of rest) t (frame_left f) s (Back s') is
      ∙ ap (λ (frames : List Frame). visiting (seen (lists_of rest) s (Ends (Back s'))) (run_frames subrs h (suc in_turn.levels) (lists_of frames) s'))
      (sym popped ∙ none)) is_one refl

  -- it ends the glyph
  pub mirror_end : (end : Ending) → ((g : State → Outcome) → then_run end g ≡ ends end) →
      Ends end ≡ spend hints t s → Stays other one one' t s (Ends end) → one' ≡ true → whole' ≡ whole
  mirror_end end stops e stays is_one =
      mirrored (visiting (seen (lists_of rest) s (Ends end))) (λ h. ends end) (Ends end) e stays
      (λ h is. token_ends subrs h in_turn.levels (lists_of rest) t (frame_left f) s end is
      ∙ ap (visiting (seen (lists_of rest) s (Ends end))) (stops (run_frames subrs h (suc in_turn.levels) (lists_of rest)))) is_one refl

  -- it calls, where so many levels are left above its frame
  module _ (s' : State) (i : ℤ) (index : Option ℕ) (call_stack : List Frame) (levels : ℕ)
      (e : Calls i s' ≡ spend hints t s) (stays : Stays other one one' t s (Calls i s')) (is : index ≡ index_of i)
      (pushed : call_stack ≡ rest ++ f ∷ []) (room : levels + length call_stack ≡ suc level_limit) where
    abbrev visits : List Visit
    visits = seen (lists_of rest) s (Calls i s')

    same_levels : in_turn.levels ≡ levels
    same_levels = omega (arith, in_turn.depth, room, length_push call_stack rest f pushed)

    calls_by : (h : Hints) → Calls i s' ≡ spend h t s →
        lists_by h ≡ visiting visits (after (index_taken index) (call_on subrs h levels (lists_of call_stack) index s'))
    calls_by h e =
        token_calls subrs h in_turn.levels (lists_of rest) t (frame_left f) s s' i e
        ∙ ap (λ (index : Option ℕ). visiting visits (after (index_taken index) (call_on subrs h in_turn.levels (frame_left f ∷ lists_of rest) index s')))
        (sym is)
        ∙ ap (λ (lists : List (List Token)). visiting visits (after (index_taken index) (call_on subrs h in_turn.levels lists index s')))
        (sym (lists_push call_stack rest f pushed))
        ∙ ap (λ n. visiting visits (after (index_taken index) (call_on subrs h n (lists_of call_stack) index s'))) same_levels

    -- the call fails
    pub mirror_fault : (fault : Fault) → ((h : Hints) → call subrs h levels index s' ≡ ends (Failed fault)) → one' ≡ true → whole' ≡ whole
    mirror_fault fault failed is_one =
        mirrored (λ o. visiting visits (after (index_taken index) o)) (λ h. ends (Failed fault)) (Calls i s') e stays
        (λ h at. calls_by h at
        ∙ ap (λ o. visiting visits (after (index_taken index) o)) (call_fails subrs h (lists_of call_stack) index s' levels fault (failed h))) is_one refl

  -- a Subr is called: its frame is on top
  pub mirror_call : (s' : State) (i : ℤ) (index : Option ℕ) (call_stack frames : List Frame) (levels : ℕ) (c : List ℕ) (g : Frame) →
      Calls i s' ≡ spend hints t s →
      Stays other one one' t s (Calls i s') → index ≡ index_of i → call_stack ≡ rest ++ f ∷ [] → levels + length call_stack ≡ suc level_limit →
      frames ≡ call_stack ++ g ∷ [] → (0 < levels) × (charstring_at subrs index ≡ Some c) → frame_left g ≡ tokens c →
      Mirror whole whole' subrs hints other one' frames s'
  mirror_call s' i index call_stack frames zero c g e stays is pushed room entered enters all = absurd (omega (arith, enters.0))
  mirror_call s' i index call_stack frames (suc levels) c g e stays is pushed room entered enters all =
      let lists : lists_of frames ≡ tokens c ∷ lists_of call_stack =
      lists_push frames call_stack g entered ∙ ap (λ (ts : List Token). ts ∷ lists_of call_stack) all in
      record {
        levels = levels;
        depth = omega (arith, room, length_push frames call_stack g entered);
        mirrors = mirrored (λ o. visiting (visits s' i index call_stack (suc levels) e stays is pushed room) (after (index_taken index) o))
            (λ h. run_frames subrs h levels (lists_of frames) s') (Calls i s') e stays
            (λ h at. calls_by s' i index call_stack (suc levels) e stays is pushed room h at
            ∙ ap (λ o. visiting (visits s' i index call_stack (suc levels) e stays is pushed room) (after (index_taken index) o))
            (call_enters subrs h (lists_of call_stack) index s' levels c enters.1
            ∙ ap (λ (lists : List (List Token)). run_frames subrs h levels lists s') (sym lists)));
      }
