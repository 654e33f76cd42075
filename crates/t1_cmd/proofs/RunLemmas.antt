-- How engines end, from how their steps end.
use Rattle.std.proofs.Common.{◌≡◌, ◌<◌, ℕ, refl, sym, ◌∙◌, ap, subst, List, [], ◌∷◌, ◌++◌, ◌⊎◌, inl, inr, ⊎_elim, Option, None, Some, Result, Ok, Err, IfSome, arith}
use Rattle.std.specs.{Prelude.{OnOk, OnErr, IfErr, IsOk, IsOkUnless, option_and_then}, Result.{result_ok}, Io.KnownBytes.{Appends}}
use Rattle.t1_cmd.specs.{declared.counting.Counted.{Counted}, declared.faults.Reason.{Reason}}
use Rattle.t1_cmd.specs.declared.faults.Reason.TheVariants.{TooLong, Memory, List as ListReason, Join as JoinReason, Font, NoGlyph, NoCode}
use Rattle.t1_cmd.specs.declared.faults.Reason.TheVariants.{NoFont, Document as DocumentReason, TooManyTokens, Lacks, Merge}
use Rattle.t1_cmd.specs.{declared.faults.RunFault.{RunFault}}
use Rattle.t1_cmd.specs.{declared.faults.RunFault.TheVariants.{Refused, Read, Write}, Count.{inner_of, failed_of, last_count}}
use Rattle.t1_cmd.specs.Inputs.{Input, Rose, RoseByOne, HasFailed, AllQuiet, Understood, AllUnderstood, IsRefused, FirstWith, value_and, values_of, Say}
use Rattle.t1_cmd.specs.Runs.{AppendsPrefix, InputStops, RefusedTogether, Stops, RunEnds, Succeeds}

-- a count that stays below its last value did not rise
not_risen : (old new : ℕ) → Rose old new → new ≡ old → old < last_count → ⊥
not_risen old new r e l = omega arith

module _ {A : Type 0} (understand : List ℕ → Result A Reason) where
  -- the input says x, where it is known
  abbrev pub Says : Input → A → Type 0
  Says i x = IfSome i.known (λ bytes. understand bytes ≡ Ok x)

  ok_is_ok : (r : Result A Reason) (x : A) → r ≡ Ok x → IsOk r
  ok_is_ok r x e = subst IsOk (sym e) refl

  -- an input that says a value is understood
  pub says_understood : (i : Input) (x : A) → Says i x → Understood understand i
  says_understood i x h = by i.known h
    where
      by : (o : Option (List ℕ)) → IfSome o (λ bytes. understand bytes ≡ Ok x) → IfSome o (λ bytes. IsOk (understand bytes))
      by None h = tt
      by (Some b) h = ok_is_ok (understand b) x h

  -- inputs that say values are all understood
  pub all_understood : (is : List Input) (xs : List A) → Say understand is xs → AllUnderstood understand is
  all_understood [] [] h = tt
  all_understood [] (x ∷ xs) h = absurd h
  all_understood (i ∷ is) [] h = absurd h
  all_understood (i ∷ is) (x ∷ xs) h = (says_understood i x h.0, all_understood is xs h.1)

  -- where all inputs are known, they say the values
  pub values_are : (is : List Input) (xs : List A) → Say understand is xs → IfSome (values_of understand is) (λ values. values ≡ xs)
  values_are [] [] h = refl
  values_are [] (x ∷ xs) h = absurd h
  values_are (i ∷ is) [] h = absurd h
  values_are (i ∷ is) (x ∷ xs) h = by i.known h.0 (values_of understand is) (values_are is xs h.1)
    where
      one : (r : Result A Reason) (v : Option (List A)) → r ≡ Ok x → IfSome v (λ values. values ≡ xs)
          → IfSome (value_and (result_ok r) v) (λ values. values ≡ x ∷ xs)
      one (Ok y) None e k = tt
      one (Ok y) (Some ys) e k = let same : y ≡ x = cc in (λ j. same j ∷ k j)
      one (Err r) v e k = cc

      by : (o : Option (List ℕ)) → IfSome o (λ bytes. understand bytes ≡ Ok x) → (v : Option (List A)) → IfSome v (λ values. values ≡ xs)
          → IfSome (value_and (option_and_then (λ bytes. result_ok (understand bytes)) o) v) (λ values. values ≡ x ∷ xs)
      by None h v k = tt
      by (Some b) h v k = one (understand b) v h k

  -- what holds of the values that inputs say holds where all are known
  pub values_have : (P : List A → Type 0) (is : List Input) (xs : List A) → Say understand is xs → P xs → IfSome (values_of understand is) P
  values_have P is xs h p = by (values_of understand is) (values_are is xs h)
    where
      by : (v : Option (List A)) → IfSome v (λ values. values ≡ xs) → IfSome v P
      by None e = tt
      by (Some ys) e = subst P (sym e) p

  -- an input after others that are understood
  pub first_at : (P : Input → Type 0) (front : List Input) (i : Input) (rest : List Input) → AllUnderstood understand front → P i
      → FirstWith understand P (front ++ i ∷ rest)
  first_at P [] i rest h p = inl p
  first_at P (j ∷ front) i rest h p = inr (h.0, first_at P front i rest h.1 p)

  -- what is known and understood is not refused
  pub first_refused : (r : Reason) (is : List Input) (xs : List A) → FirstWith understand (IsRefused understand r) is → values_of understand is ≡ Some xs → ⊥
  first_refused r [] xs h e = h
  first_refused r (i ∷ is) xs h e = by i.known (values_of understand is) refl (λ ys d k. first_refused r is ys d k) h e
    where
      one : (a : Result A Reason) (v : Option (List A)) → a ≡ Err r → value_and (result_ok a) v ≡ Some xs → ⊥
      one (Ok x) v d k = cc
      one (Err s) v d k = cc

      other : (a : Result A Reason) (v : Option (List A)) → value_and (result_ok a) v ≡ Some xs → (ys : List A) × (v ≡ Some ys)
      other (Ok x) None k = cc
      other (Ok x) (Some ys) k = (ys, refl)
      other (Err s) v k = cc

      by : (o : Option (List ℕ)) (v : Option (List A)) → values_of understand is ≡ v
          → ((ys : List A) → FirstWith understand (IsRefused understand r) is → values_of understand is ≡ Some ys → ⊥)
          → (IfSome o (λ bytes. understand bytes ≡ Err r) ⊎ (IfSome o (λ bytes. IsOk (understand bytes)) × FirstWith understand (IsRefused understand r) is))
          → value_and (option_and_then (λ bytes. result_ok (understand bytes)) o) v ≡ Some xs → ⊥
      by None v w ih h k = cc
      by (Some b) v w ih h k =
          ⊎_elim
          (λ d. one (understand b) v d k)
          (λ d. let ys = other (understand b) v k in ih ys.0 d.1 (w ∙ ys.1))
          h

  pub first_failed : (is : List Input) → FirstWith understand HasFailed is → AllQuiet is → ⊥
  first_failed [] h q = h
  first_failed (i ∷ is) h q = ⊎_elim (λ r. not_risen i.before i.after r q.0.0 q.0.1) (λ r. first_failed is r.1 q.1) h

  module _ (Answers : List A → Result (List ℕ) Reason → Type 0) where
    -- an input stops the engine
    pub stops_after : (front : List Input) (i : Input) (rest : List Input) (e : RunFault) → AllUnderstood understand front → InputStops understand i e
        → Stops understand Answers (front ++ i ∷ rest) e
    stops_after front i rest (Refused TooLong) h s = inl (first_at (IsRefused understand TooLong) front i rest h s)
    stops_after front i rest (Refused Memory) h s = tt
    stops_after front i rest (Refused (ListReason f)) h s = inl (first_at (IsRefused understand (ListReason f)) front i rest h s)
    stops_after front i rest (Refused (JoinReason f)) h s = inl (first_at (IsRefused understand (JoinReason f)) front i rest h s)
    stops_after front i rest (Refused (Font f)) h s = inl (first_at (IsRefused understand (Font f)) front i rest h s)
    stops_after front i rest (Refused (NoGlyph n)) h s = inl (first_at (IsRefused understand (NoGlyph n)) front i rest h s)
    stops_after front i rest (Refused (NoCode code)) h s = inl (first_at (IsRefused understand (NoCode code)) front i rest h s)
    stops_after front i rest (Refused (DocumentReason why)) h s = inl (first_at (IsRefused understand (DocumentReason why)) front i rest h s)
    stops_after front i rest (Refused (NoFont n)) h s = inl (first_at (IsRefused understand (NoFont n)) front i rest h s)
    stops_after front i rest (Refused TooManyTokens) h s = inl (first_at (IsRefused understand TooManyTokens) front i rest h s)
    stops_after front i rest (Refused (Lacks g k)) h s = inl (first_at (IsRefused understand (Lacks g k)) front i rest h s)
    stops_after front i rest (Refused (Merge n)) h s = inl (first_at (IsRefused understand (Merge n)) front i rest h s)
    stops_after front i rest Read h s = first_at HasFailed front i rest h s
    stops_after front i rest Write h s = absurd s

    -- an engine that stops has not written
    pub stopped : {W : Type 0} (contents : W → Option (List ℕ)) (is : List Input) (w : Counted W) (e : RunFault) → Stops understand Answers is e
        → RunEnds understand Answers contents is w w (Err e)
    stopped contents is w (Refused r) h = (refl, h)
    stopped contents is w Read h = (refl, h)
    stopped contents is w Write h = absurd h

    -- the inputs are refused together
    pub stops_together : (is : List Input) (xs : List A) (r : Reason) → Say understand is xs → Answers xs (Err r) → Stops understand Answers is (Refused r)
    stops_together is xs r h a = by r a
      where
        together : (s : Reason) → Answers xs (Err s) → RefusedTogether understand Answers s is
        together s b = (all_understood is xs h, values_have (λ values. Answers values (Err s)) is xs h b)

        by : (s : Reason) → Answers xs (Err s) → Stops understand Answers is (Refused s)
        by TooLong b = inr (together TooLong b)
        by Memory b = tt
        by (ListReason f) b = inr (together (ListReason f) b)
        by (JoinReason f) b = inr (together (JoinReason f) b)
        by (Font f) b = inr (together (Font f) b)
        by (NoGlyph n) b = inr (together (NoGlyph n) b)
        by (NoCode code) b = inr (together (NoCode code) b)
        by (DocumentReason why) b = inr (together (DocumentReason why) b)
        by (NoFont n) b = inr (together (NoFont n) b)
        by TooManyTokens b = inr (together TooManyTokens b)
        by (Lacks g k) b = inr (together (Lacks g k) b)
        by (Merge n) b = inr (together (Merge n) b)

    -- the text was written, or a prefix of it
    pub write_ends : {W : Type 0} (contents : W → Option (List ℕ)) (is : List Input) (xs : List A) (w v : Counted W)
        (text : List ℕ) (result : Result (Unit {0}) RunFault) → Say understand is xs → Answers xs (Ok text)
        → OnOk result (Appends (contents (inner_of w)) (contents (inner_of v)) text)
        → IfErr result (λ e. e ≡ Write) → OnErr result (AppendsPrefix (contents (inner_of w)) (contents (inner_of v)) text)
        → OnErr result (RoseByOne (failed_of w) (failed_of v)) → RunEnds understand Answers contents is w v result
    write_ends contents is xs w v text (Ok u) h a whole fault prefix rose = (
      all_understood is xs h,
      values_have (λ values. (t : List ℕ) × Answers values (Ok t) × Appends (contents (inner_of w)) (contents (inner_of v)) t) is xs h (text, a, whole),
    )
    write_ends contents is xs w v text (Err e) h a whole fault prefix rose =
        subst (λ (d : RunFault). RunEnds understand Answers contents is w v (Err d)) (sym fault) (
          (
            all_understood is xs h,
            values_have (λ values. (t : List ℕ) × Answers values (Ok t) × AppendsPrefix (contents (inner_of w)) (contents (inner_of v)) t)
                is xs h (text, a, prefix),
          ),
          rose,
        )

    -- an engine that ends so succeeds where it should
    pub ends_succeeds : ((xs : List A) (text : List ℕ) (r : Reason) → Answers xs (Ok text) → Answers xs (Err r) → r ≡ Memory)
        → {W : Type 0} (contents : W → Option (List ℕ)) (is : List Input) (w v : Counted W) (result : Result (Unit {0}) RunFault)
        → RunEnds understand Answers contents is w v result → Succeeds understand Answers is w v result
    ends_succeeds apart contents is w v result ends = by (values_of understand is) refl
      where
        refused : (xs : List A) (text : List ℕ) (r : Reason) → values_of understand is ≡ Some xs → Answers xs (Ok text)
            → (FirstWith understand (IsRefused understand r) is ⊎ RefusedTogether understand Answers r is) → r ≡ Memory
        refused xs text r e a s =
            ⊎_elim
            (λ f. absurd (first_refused r is xs f e))
            (λ t. apart xs text r a (subst (λ o. IfSome o (λ values. Answers values (Err r))) e t.1))
            s

        at : (xs : List A) → values_of understand is ≡ Some xs → (text : List ℕ) → Answers xs (Ok text) → AllQuiet is → failed_of v ≡ failed_of w
            → failed_of w < last_count → (answer : Result (Unit {0}) RunFault) → RunEnds understand Answers contents is w v answer
            → IsOkUnless answer (Refused Memory)
        at xs e text a q same low (Ok u) h = tt
        at xs e text a q same low (Err (Refused TooLong)) h = ap Refused (refused xs text TooLong e a h.1)
        at xs e text a q same low (Err (Refused Memory)) h = refl
        at xs e text a q same low (Err (Refused (ListReason f))) h = ap Refused (refused xs text (ListReason f) e a h.1)
        at xs e text a q same low (Err (Refused (JoinReason f))) h = ap Refused (refused xs text (JoinReason f) e a h.1)
        at xs e text a q same low (Err (Refused (Font f))) h = ap Refused (refused xs text (Font f) e a h.1)
        at xs e text a q same low (Err (Refused (NoGlyph n))) h = ap Refused (refused xs text (NoGlyph n) e a h.1)
        at xs e text a q same low (Err (Refused (NoCode code))) h = ap Refused (refused xs text (NoCode code) e a h.1)
        at xs e text a q same low (Err (Refused (DocumentReason why))) h = ap Refused (refused xs text (DocumentReason why) e a h.1)
        at xs e text a q same low (Err (Refused (NoFont n))) h = ap Refused (refused xs text (NoFont n) e a h.1)
        at xs e text a q same low (Err (Refused TooManyTokens)) h = ap Refused (refused xs text TooManyTokens e a h.1)
        at xs e text a q same low (Err (Refused (Lacks g k))) h = ap Refused (refused xs text (Lacks g k) e a h.1)
        at xs e text a q same low (Err (Refused (Merge n))) h = ap Refused (refused xs text (Merge n) e a h.1)
        at xs e text a q same low (Err Read) h = absurd (first_failed is h.1 q)
        at xs e text a q same low (Err Write) h = absurd (not_risen (failed_of w) (failed_of v) (omega (arith, h.1)) same low)

        by : (o : Option (List A)) → values_of understand is ≡ o
            → IfSome o (λ values. (text : List ℕ) → Answers values (Ok text) → AllQuiet is → failed_of v ≡ failed_of w → failed_of w < last_count
            → IsOkUnless result (Refused Memory))
        by None e = tt
        by (Some xs) e = λ text a q same low. at xs e text a q same low result ends
