-- Refusals that are added to a list, one for each conflict of a walk.
use Rattle.std.proofs.{Common.{◌≡◌, Bool, true, false, cond, List, [], ◌∷◌, ◌++◌, map, filter, refl, sym, ◌∙◌, ap, subst, append_assoc, Some, None}, lemmas.List.{append-nil}}
use Rattle.t1_algebra.specs.Conflicts.{Conflict, OverLimit}
use Rattle.t1_subset.specs.{declared.conflict.Conflict.{Conflict as Refusal}, Refusals.{Tells, TellEach, Adds, AddsOne}}
use Rattle.t1_subset.specs.declared.conflict.Conflict.TheVariants.{Memory, Empty, Limit, Shell, Code, Glyph, Part, Subr}

-- a refusal that tells a conflict, behind those that tell others
pub told_last : (es : List Refusal) (e : Refusal) (cs : List Conflict) (c : Conflict) →
    TellEach es cs → Tells e (Some c) × ¬ (e ≡ Memory) → TellEach (es ++ e ∷ []) (cs ++ c ∷ [])
told_last [] e [] c h k = (k, tt)
told_last [] e (d ∷ cs) c h k = absurd h
told_last (x ∷ es) e [] c h k = absurd h
told_last (x ∷ es) e (d ∷ cs) c h k = (h.0, told_last es e cs c h.1 k)

-- nothing is told by nothing
pub tells_none : (es : List Refusal) (cs : List Conflict) → es ≡ [] → TellEach es cs → cs ≡ []
tells_none es [] e h = refl
tells_none es (c ∷ cs) e h = absurd (subst (λ (es : List Refusal). TellEach es (c ∷ cs)) e h)

-- nothing tells nothing
pub none_tells : (es : List Refusal) (cs : List Conflict) → cs ≡ [] → TellEach es cs → es ≡ []
none_tells [] cs e h = refl
none_tells (x ∷ es) cs e h = absurd (subst (TellEach (x ∷ es)) e h)

-- the limits alone are told
pub tells_limit : (es : List Refusal) (cs : List Conflict) → es ≡ Limit ∷ [] → cs ≡ OverLimit ∷ [] → TellEach es cs
tells_limit es cs e k = subst (TellEach es) (sym k) (subst (λ (es : List Refusal). TellEach es (OverLimit ∷ [])) (sym e) ((refl, λ m. cc), tt))

-- a refusal that was added
pub added_one : (es fs : List Refusal) (e : Refusal) → fs ≡ es ++ e ∷ [] → ¬ (e ≡ Memory) → AddsOne e es fs
added_one es fs e is n = λ c t ds h. subst (λ (fs : List Refusal). TellEach fs (ds ++ c ∷ [])) (sym is) (told_last es e ds c h (t, n))

-- a conflict that passes is told by a refusal that was added
pub adds_passing : (e : Refusal) (es fs : List Refusal) (c : Conflict) (b : Bool) → b ≡ true → Tells e (Some c) → AddsOne e es fs
    → Adds es fs (cond b (c ∷ []) [])
adds_passing e es fs c b is t h = subst (λ b. Adds es fs (cond b (c ∷ []) [])) (sym is) (h c t)

-- where nothing is added, no conflict is told besides
pub adds_none : (es : List Refusal) → Adds es es []
adds_none es = λ ds h. subst (TellEach es) (sym (append-nil ds)) h

-- of a conflict that doesn't pass nothing is told
pub adds_failing : (es : List Refusal) (c : Conflict) (b : Bool) → b ≡ false → Adds es es (cond b (c ∷ []) [])
adds_failing es c b is = subst (λ b. Adds es es (cond b (c ∷ []) [])) (sym is) (adds_none es)

-- what is added first and then tells all of both
pub adds_both : (es fs gs : List Refusal) (cs ds : List Conflict) → Adds es fs cs → Adds fs gs ds → Adds es gs (cs ++ ds)
adds_both es fs gs cs ds h k = λ bs t. subst (TellEach gs) (append_assoc bs cs ds) (k (bs ++ cs) (h bs t))

-- ---- a walk over a list, in which each element that passes is told

-- what the refusals tell that were added so far, and then the conflicts that are left, are all
pub record Adding (old new : List Refusal) (all left : List Conflict) : Type 0 where
  pub done : List Conflict
  pub both : done ++ left ≡ all
  pub added : Adds old new done

-- before the walk all are left
pub adding_starts : (es : List Refusal) (all left : List Conflict) → left ≡ all → Adding es es all left
adding_starts es all left e = record { done = []; both = e; added = adds_none es }

-- behind it all are added
pub adding_ends : (old new : List Refusal) (all left : List Conflict) → left ≡ [] → Adding old new all left → Adds old new all
adding_ends old new all left e h = subst (Adds old new) (sym (append-nil h.done) ∙ (ap (λ (cs : List Conflict). h.done ++ cs) (sym e) ∙ h.both)) h.added

module _ {X : Type 0} (p : X → Bool) (f : X → Conflict) where
  -- the conflicts of those that pass
  abbrev pub each_told : List X → List Conflict
  each_told xs = map f (filter p xs)

  told_before : (x : X) (xs : List X) → cond (p x) (f x ∷ []) [] ++ each_told xs ≡ each_told (x ∷ xs)
  told_before x xs = elim (p x) as (λ b. cond b (f x ∷ []) [] ++ each_told xs ≡ map f (cond b (x ∷ filter p xs) (filter p xs))) [ true ↦ refl | false ↦ refl ]

  -- once the first is told if it passes, the others are left
  pub adding_next : (old new more : List Refusal) (all : List Conflict) (x : X) (xs left : List X) → left ≡ x ∷ xs →
      Adding old new all (each_told left) → Adds new more (cond (p x) (f x ∷ []) []) → Adding old more all (each_told xs)
  adding_next old new more all x xs left is h k = record {
    done = h.done ++ cond (p x) (f x ∷ []) [];
    both = append_assoc h.done (cond (p x) (f x ∷ []) []) (each_told xs)
        ∙ (ap (λ (cs : List Conflict). h.done ++ cs) (told_before x xs ∙ sym (ap each_told is)) ∙ h.both);
    added = adds_both old new more h.done (cond (p x) (f x ∷ []) []) h.added k;
  }

-- a refusal that tells no conflict is want of memory
pub tells_no_conflict : (e : Refusal) → Tells e None → e ≡ Memory
tells_no_conflict Memory h = refl
tells_no_conflict (Shell p) h = absurd cc
tells_no_conflict (Code n) h = absurd cc
tells_no_conflict (Glyph n) h = absurd cc
tells_no_conflict (Part g p) h = absurd cc
tells_no_conflict (Subr i g) h = absurd cc
tells_no_conflict Limit h = absurd cc
tells_no_conflict Empty h = absurd h
