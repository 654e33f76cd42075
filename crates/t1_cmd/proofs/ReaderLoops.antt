-- Readers that are read one after the other: what they have said so far, and how they stop.
use Rattle.std.proofs.Common.{◌≡◌, ◌<◌, ◌≤◌, ◌+◌, ℕ, zero, suc, refl, sym, ◌∙◌, ap, subst, List, [], ◌∷◌, ◌++◌, length, get_or, set, inl, inr, Option, Result, Ok, IfSome, arith}
use Rattle.t1_cmd.specs.{declared.counting.Counted.{Counted}}
use Rattle.t1_cmd.specs.declared.faults.Reason.TheVariants.{TooLong, Memory, List as ListReason, Join as JoinReason, Font, NoGlyph, NoCode}
use Rattle.t1_cmd.specs.declared.faults.Reason.TheVariants.{NoFont, Document as DocumentReason, TooManyTokens, Lacks, Merge}
use Rattle.t1_cmd.specs.{declared.faults.RunFault.{RunFault}, declared.faults.RunFault.TheVariants.{Refused, Read, Write}, Count.{inner_of, calls_counted}}
use Rattle.t1_cmd.specs.{Inputs.{Input, input_of, HasFailed, IsRefused, FirstWith, Say}, Runs.{InputStops}, declared.faults.Reason.{Reason}, Mergers.{inputs_of, InTurns, InputsStop}}
use Rattle.t1_cmd.proofs.RunLemmas.{says_understood}
use Rattle.t1_bytes.specs.Limits.{file_limit}

module _ {A : Type 0} (input : List ℕ → Result A Reason) {X : Type 0} (remaining : X → Option (List ℕ)) where
  -- where it is known, the reader says the font
  abbrev pub Says : Counted X → A → Type 0
  Says r f = IfSome (remaining (inner_of r)) (λ bytes. input bytes ≡ Ok f)

  -- a reader was called no more often than one input may take
  abbrev pub InTurn : Counted X → Counted X → Type 0
  InTurn old new = calls_counted new ≤ calls_counted old + (file_limit + 1)

  -- the first readers have said these fonts, and the others are as they were
  abbrev pub SoFar : ℕ → List (Counted X) → List (Counted X) → List A → Type 0
  SoFar zero os ns fs = (ns ≡ os) × (fs ≡ [])
  SoFar (suc i) [] ns fs = ⊥
  SoFar (suc i) (o ∷ os) [] fs = ⊥
  SoFar (suc i) (o ∷ os) (n ∷ ns) [] = ⊥
  SoFar (suc i) (o ∷ os) (n ∷ ns) (f ∷ fs) = Says o f × InTurn o n × SoFar i os ns fs

  first_next : (os : List (Counted X)) (r x : Counted X) (f : A) → 0 < length os → r ≡ get_or os 0 r → Says r f → InTurn r x
      → SoFar 1 os (set os 0 x) (f ∷ [])
  first_next [] r x f l e s t = absurd (omega (arith, l))
  first_next (o ∷ os) r x f l e s t = (subst (λ r. Says r f) e s, subst (λ r. InTurn r x) e t, (refl, refl))

  -- one more reader said its font
  pub next : (i : ℕ) (os ns : List (Counted X)) (fs : List A) (r x : Counted X) (f : A) → SoFar i os ns fs → i < length ns
      → r ≡ get_or ns i r → Says r f → InTurn r x → SoFar (suc i) os (set ns i x) (fs ++ f ∷ [])
  next zero os ns fs r x f h l e s t =
      subst (λ ns. SoFar 1 os (set ns 0 x) (fs ++ f ∷ [])) (sym h.0) (subst (λ fs. SoFar 1 os (set os 0 x) (fs ++ f ∷ [])) (sym h.1)
      (first_next os r x f (subst (λ ns. 0 < length ns) h.0 l) (e ∙ ap (λ ns. get_or ns 0 r) h.0) s t))
  next (suc i) [] ns fs r x f h l e s t = absurd h
  next (suc i) (o ∷ os) [] fs r x f h l e s t = absurd h
  next (suc i) (o ∷ os) (n ∷ ns) [] r x f h l e s t = absurd h
  next (suc i) (o ∷ os) (n ∷ ns) (g ∷ fs) r x f h l e s t = (h.0, h.1, next i os ns fs r x f h.2 (omega (arith, l)) e s t)

  -- the same, as code counts the place
  pub goes_on : (i : ℕ) (os ns : List (Counted X)) (fs : List A) (r x : Counted X) (f : A) → SoFar i os ns fs → i < length ns
      → r ≡ get_or ns i r → Says r f → InTurn r x → SoFar (i + 1) os (set ns i x) (fs ++ f ∷ [])
  goes_on i os ns fs r x f h l e s t =
      let more : suc i ≡ i + 1 = omega arith in subst (λ k. SoFar k os (set ns i x) (fs ++ f ∷ [])) more (next i os ns fs r x f h l e s t)

  -- ---- a reader that stops

  first_stops : (P : Input → Type 0) (os : List (Counted X)) (r x : Counted X) → 0 < length os → r ≡ get_or os 0 r → P (input_of remaining r x)
      → FirstWith input P (inputs_of remaining os (set os 0 x))
  first_stops P [] r x l e p = absurd (omega (arith, l))
  first_stops P (o ∷ os) r x l e p = inl (subst (λ r. P (input_of remaining r x)) e p)

  -- a reader with a fact is the first, since those before it are understood
  pub first_with : (P : Input → Type 0) (i : ℕ) (os ns : List (Counted X)) (fs : List A) (r x : Counted X) → SoFar i os ns fs → i < length ns
      → r ≡ get_or ns i r → P (input_of remaining r x) → FirstWith input P (inputs_of remaining os (set ns i x))
  first_with P zero os ns fs r x h l e p =
      subst (λ ns. FirstWith input P (inputs_of remaining os (set ns 0 x))) (sym h.0)
      (first_stops P os r x (subst (λ ns. 0 < length ns) h.0 l) (e ∙ ap (λ ns. get_or ns 0 r) h.0) p)
  first_with P (suc i) [] ns fs r x h l e p = absurd h
  first_with P (suc i) (o ∷ os) [] fs r x h l e p = absurd h
  first_with P (suc i) (o ∷ os) (n ∷ ns) [] r x h l e p = absurd h
  first_with P (suc i) (o ∷ os) (n ∷ ns) (f ∷ fs) r x h l e p =
      inr (says_understood input (input_of remaining o n) f h.0, first_with P i os ns fs r x h.2 (omega (arith, l)) e p)

  -- what stops a reader stops the reading of all
  pub stops : (i : ℕ) (os ns : List (Counted X)) (fs : List A) (r x : Counted X) (e : RunFault) → SoFar i os ns fs → i < length ns
      → r ≡ get_or ns i r → InputStops input (input_of remaining r x) e → InputsStop input (inputs_of remaining os (set ns i x)) e
  stops i os ns fs r x (Refused TooLong) h l e s = first_with (IsRefused input TooLong) i os ns fs r x h l e s
  stops i os ns fs r x (Refused Memory) h l e s = tt
  stops i os ns fs r x (Refused (ListReason f)) h l e s = first_with (IsRefused input (ListReason f)) i os ns fs r x h l e s
  stops i os ns fs r x (Refused (JoinReason f)) h l e s = first_with (IsRefused input (JoinReason f)) i os ns fs r x h l e s
  stops i os ns fs r x (Refused (Font f)) h l e s = first_with (IsRefused input (Font f)) i os ns fs r x h l e s
  stops i os ns fs r x (Refused (NoGlyph f)) h l e s = first_with (IsRefused input (NoGlyph f)) i os ns fs r x h l e s
  stops i os ns fs r x (Refused (NoCode code)) h l e s = first_with (IsRefused input (NoCode code)) i os ns fs r x h l e s
  stops i os ns fs r x (Refused (DocumentReason why)) h l e s = first_with (IsRefused input (DocumentReason why)) i os ns fs r x h l e s
  stops i os ns fs r x (Refused (NoFont f)) h l e s = first_with (IsRefused input (NoFont f)) i os ns fs r x h l e s
  stops i os ns fs r x (Refused TooManyTokens) h l e s = first_with (IsRefused input TooManyTokens) i os ns fs r x h l e s
  stops i os ns fs r x (Refused (Lacks g k)) h l e s = first_with (IsRefused input (Lacks g k)) i os ns fs r x h l e s
  stops i os ns fs r x (Refused (Merge f)) h l e s = first_with (IsRefused input (Merge f)) i os ns fs r x h l e s
  stops i os ns fs r x Read h l e s = first_with HasFailed i os ns fs r x h l e s
  stops i os ns fs r x Write h l e s = absurd s

  -- ---- turns

  still : (os : List (Counted X)) → InTurns os os
  still [] = tt
  still (o ∷ os) = (omega arith, still os)

  first_turns : (os : List (Counted X)) (r x : Counted X) → r ≡ get_or os 0 r → InTurn r x → InTurns os (set os 0 x)
  first_turns [] r x e t = tt
  first_turns (o ∷ os) r x e t = (subst (λ r. InTurn r x) e t, still os)

  -- each reader so far kept its turns
  pub turns_at : (i : ℕ) (os ns : List (Counted X)) (fs : List A) (r x : Counted X) → SoFar i os ns fs → r ≡ get_or ns i r → InTurn r x
      → InTurns os (set ns i x)
  turns_at zero os ns fs r x h e t = subst (λ ns. InTurns os (set ns 0 x)) (sym h.0) (first_turns os r x (e ∙ ap (λ ns. get_or ns 0 r) h.0) t)
  turns_at (suc i) [] ns fs r x h e t = absurd h
  turns_at (suc i) (o ∷ os) [] fs r x h e t = absurd h
  turns_at (suc i) (o ∷ os) (n ∷ ns) [] r x h e t = absurd h
  turns_at (suc i) (o ∷ os) (n ∷ ns) (f ∷ fs) r x h e t = (h.1, turns_at i os ns fs r x h.2 e t)

  -- ---- all readers

  none_left : (os : List (Counted X)) → length os ≤ 0 → Say input (inputs_of remaining os os) []
  none_left [] l = tt
  none_left (o ∷ os) l = absurd (omega (arith, l))

  -- behind the last reader all fonts are said
  pub all_said : (i : ℕ) (os ns : List (Counted X)) (fs : List A) → SoFar i os ns fs → length ns ≤ i → Say input (inputs_of remaining os ns) fs
  all_said zero os ns fs h l =
      subst (λ ns. Say input (inputs_of remaining os ns) fs) (sym h.0)
      (subst (λ fs. Say input (inputs_of remaining os os) fs) (sym h.1) (none_left os (subst (λ ns. length ns ≤ 0) h.0 l)))
  all_said (suc i) [] ns fs h l = absurd h
  all_said (suc i) (o ∷ os) [] fs h l = absurd h
  all_said (suc i) (o ∷ os) (n ∷ ns) [] h l = absurd h
  all_said (suc i) (o ∷ os) (n ∷ ns) (f ∷ fs) h l = (h.0, all_said i os ns fs h.2 (omega (arith, l)))

  -- and all readers kept their turns
  pub all_turns : (i : ℕ) (os ns : List (Counted X)) (fs : List A) → SoFar i os ns fs → InTurns os ns
  all_turns zero os ns fs h = subst (λ ns. InTurns os ns) (sym h.0) (still os)
  all_turns (suc i) [] ns fs h = absurd h
  all_turns (suc i) (o ∷ os) [] fs h = absurd h
  all_turns (suc i) (o ∷ os) (n ∷ ns) [] h = absurd h
  all_turns (suc i) (o ∷ os) (n ∷ ns) (f ∷ fs) h = (h.1, all_turns i os ns fs h.2)
