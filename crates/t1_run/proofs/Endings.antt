-- What is asked of how a charstring ended: its answer, and the parts that it names.
use Rattle.std.proofs.Common.{◌≡◌, refl, sym, ap, subst, ◌∙◌, ℕ, Bool, not, List, []}
use Rattle.std.specs.List.{list_any}
use Rattle.t1_run.specs.{declared.answer.Halt.{Halt}, declared.answer.Mark.{Mark}, State.{Ending}, Run.{Outcome, at_top, marks_by}, Machine.{ending_of, Runs}, Limits.{EndsWithinLimits}}
use Rattle.t1_run.specs.{Pens.{drawn_on, Draws, with_mark}, Drawings.{parts_of}, Budgets.{is_replace}}
use Rattle.t1_run.proofs.Pages.{kept_marks}
use Rattle.t1_run.specs.declared.answer.Halt.TheVariants as halt

-- where marks were kept, it answers with these
module _ (outcome : Outcome) (h : Halt) (one : Bool) (before kept : List Mark) (none : before ≡ []) (old new : List ℕ)
    (runs : Runs outcome h one (Draws with_mark before kept) old new) (value : Ending) (is : value ≡ ending_of h kept) where
  with_all : value ≡ ending_of h runs.marks
  with_all = is ∙ ap (ending_of h) (runs.drawn ∙ ap (λ page. drawn_on with_mark page runs.marks) none ∙ kept_marks [] runs.marks)

  -- its answer is that of the run
  pub answered : value ≡ at_top outcome.ending
  answered = with_all ∙ runs.ends_so

  -- its answer is within the limits
  pub answered_within : EndsWithinLimits value
  answered_within = subst EndsWithinLimits (sym with_all) runs.within

-- its marks don't matter to its parts
same_parts : (h : Halt) (marks : List Mark) → parts_of (ending_of h []) ≡ parts_of (ending_of h marks)
same_parts (halt.Plain metrics) marks = refl
same_parts (halt.Seac accent) marks = refl
same_parts (halt.Failed fault) marks = refl

-- it names the parts of the run's answer, whatever was drawn
pub named : (outcome : Outcome) (h : Halt) (one : Bool) (Drawn : List Mark → Type 0) (old new : List ℕ) → Runs outcome h one Drawn old new →
    parts_of (ending_of h []) ≡ parts_of (at_top outcome.ending)
named outcome h one Drawn old new runs = same_parts h runs.marks ∙ ap parts_of runs.ends_so

-- it is told whether none of the run's marks replaces hints
pub told_so : (outcome : Outcome) (h : Halt) (one : Bool) (Drawn : List Mark → Type 0) (old new : List ℕ) → Runs outcome h one Drawn old new →
    one ≡ not (list_any is_replace (marks_by [] outcome.visits))
told_so outcome h one Drawn old new runs = runs.told ∙ ap (λ (marks : List Mark). not (list_any is_replace marks)) runs.made
