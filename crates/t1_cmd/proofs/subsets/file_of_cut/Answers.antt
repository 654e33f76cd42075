use Rattle.std.proofs.Common.{◌∙◌, ap, sym, Ok, List, ℕ, Result}
use Rattle.t1_font.specs.Canon.{canon}
use Rattle.t1_algebra.specs.{Profile.{profile}, Keep.{subset}}
use Rattle.t1_subset.specs.NameSets.{lent}
use Rattle.t1_cmd.specs.{declared.faults.Reason.{Reason}, Subsets.{unless_absent}}
use Rattle.std.specs.FinSet as sets
use Rattle.t1_cmd.proofs.subsets.file_of_cut.Goals as goal

pub returns-in-Err-clause-refused : goal.returns-in-Err-clause-refused
returns-in-Err-clause-refused c = c.in-Err.ensures.refused (canon (subset profile c.args.font (sets.from_list (lent c.args.names.now))) c.args.form)

pub returns-clause-text : goal.returns-clause-text
returns-clause-text c = (
  sym (ap (λ o. unless_absent o (canon (subset profile c.args.font (sets.from_list (lent c.args.names.now))) c.args.form)) c.in-Ok.ensures.present
      ∙ (ap {B = Result (List ℕ) Reason} (λ s. Ok (canon s c.args.form)) (sym c.in-Ok.ensures.cut) ∙ c.in_ok-text.ensures)),
  c.in-Ok.ensures.enough,
)
