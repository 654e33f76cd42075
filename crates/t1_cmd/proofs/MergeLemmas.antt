-- How the engine that merges fonts ends.
use Rattle.std.proofs.Common.{◌≡◌, ℕ, refl, subst, List, [], ◌∷◌, inl, ⊎_elim, Result, Ok, Err}
use Rattle.t1_bytes.specs.declared.form.Form.{Form}
use Rattle.t1_font.specs.FontValue.{FontValue}
use Rattle.t1_subset.{specs.{declared.conflict.Conflict.{Conflict as Refusal}, Merger.{NotMerged}}, proofs.Answered.{never_stops}}
use Rattle.t1_algebra.specs.Merges.{ComesTo}
use Rattle.t1_cmd.specs.{declared.faults.Reason.{Reason}}
use Rattle.t1_cmd.specs.declared.faults.Reason.TheVariants.{TooLong, Memory, List as ListReason, Join as JoinReason, Font, NoGlyph, NoCode}
use Rattle.t1_cmd.specs.declared.faults.Reason.TheVariants.{NoFont, Document as DocumentReason, TooManyTokens, Lacks, Merge}
use Rattle.t1_cmd.specs.{declared.faults.RunFault.{RunFault}, declared.faults.RunFault.TheVariants.{Refused, Read, Write}, Inputs.{Input}, Runs.{Stops}, Mergers.{InputsStop, IsTold, MergesToFile}}
use Rattle.t1_subset.specs.declared.conflict.Conflict.TheVariants as refusal

-- ---- merges from left to right

is_memory : {P : Type 0} (e : Refusal) → e ≡ refusal.Memory → IsTold e → P
is_memory e h t = absurd (subst IsTold h t)

apart_at : (fs : List FontValue) (j : FontValue) (e : Refusal) → ComesTo fs j → NotMerged fs e → IsTold e → ⊥
apart_at [] j e h s t = h
apart_at (f ∷ fs) j e h s t = ⊎_elim (λ m. is_memory e m t) (λ s. is_memory e (never_stops f fs j h e s) t) s

-- fonts that merge are refused for want of memory alone
pub merges_apart : (form : Form) (fs : List FontValue) (text : List ℕ) (r : Reason) → MergesToFile form fs (Ok text) → MergesToFile form fs (Err r) → r ≡ Memory
merges_apart form fs text TooLong h k = absurd k
merges_apart form fs text Memory h k = refl
merges_apart form fs text (ListReason f) h k = absurd k
merges_apart form fs text (JoinReason f) h k = absurd k
merges_apart form fs text (Font f) h k = absurd k
merges_apart form fs text (NoGlyph n) h k = absurd k
merges_apart form fs text (NoCode code) h k = absurd k
merges_apart form fs text (DocumentReason why) h k = absurd k
merges_apart form fs text (NoFont n) h k = absurd k
merges_apart form fs text TooManyTokens h k = absurd k
merges_apart form fs text (Lacks g q) h k = absurd k
merges_apart form fs text (Merge e) h k = absurd (apart_at fs h.0 e h.1 k.0 k.1)

-- ---- inputs

-- what stops the reading stops the engine
pub inputs_stop : (input : List ℕ → Result FontValue Reason) (Answers : List FontValue → Result (List ℕ) Reason → Type 0) (is : List Input) (e : RunFault)
    → InputsStop input is e
    → Stops input Answers is e
inputs_stop input Answers is (Refused TooLong) h = inl h
inputs_stop input Answers is (Refused Memory) h = tt
inputs_stop input Answers is (Refused (ListReason f)) h = inl h
inputs_stop input Answers is (Refused (JoinReason f)) h = inl h
inputs_stop input Answers is (Refused (Font f)) h = inl h
inputs_stop input Answers is (Refused (NoGlyph n)) h = inl h
inputs_stop input Answers is (Refused (NoCode code)) h = inl h
inputs_stop input Answers is (Refused (DocumentReason why)) h = inl h
inputs_stop input Answers is (Refused (NoFont n)) h = inl h
inputs_stop input Answers is (Refused TooManyTokens) h = inl h
inputs_stop input Answers is (Refused (Lacks g k)) h = inl h
inputs_stop input Answers is (Refused (Merge f)) h = inl h
inputs_stop input Answers is Read h = h
inputs_stop input Answers is Write h = absurd h

-- equal successes have equal texts
pub same_text : (x y : List ℕ) → ◌≡◌ {A = Result (List ℕ) Reason} (Ok x) (Ok y) → y ≡ x
same_text x y e = cc
