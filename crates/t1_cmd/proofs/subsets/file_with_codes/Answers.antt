use Rattle.std.{proofs.Common.{◌∙◌, ap, sym, subst, List, ℕ, Result, Ok, IfOk, IfErr}, specs.Borrow.{Bor}}
use Rattle.t1_subset.specs.NameSets.{lent}
use Rattle.t1_cmd.specs.{declared.faults.Reason.{Reason}, Answers.{OfThere, MayRefuse}, Subsets.{names_with}, Budgets.{CutsWithin}}
use Rattle.t1_cmd.proofs.Budgets.{refuses_there}
use Rattle.t1_cmd.proofs.subsets.file_with_codes.Goals as goal

pub returns-in-Err-clause-refused : goal.returns-in-Err-clause-refused
returns-in-Err-clause-refused c =
    refuses_there (λ all. CutsWithin c.args.budget.left c.args.form all c.args.font)
    (names_with c.args.font.encoding (lent c.args.names.now) c.args.codes.now) c.in-Err.reason c.in-Err.ensures.refused

pub returns-clause-text : goal.returns-clause-text
returns-clause-text c =
    subst (λ (r : Result (List (List ℕ)) Reason).
    IfOk c.file_of_cut.result (λ text. OfThere (λ all. CutsWithin c.args.budget.left c.args.form all c.args.font) r (Ok text.items)))
    (sym (c.in-Ok.ensures.names ∙ ap {B = Result (List (List ℕ)) Reason} (λ (ns : List (Bor (List ℕ))). Ok (lent ns)) (sym c.as_slice.ensures.value)))
    c.file_of_cut.ensures.text

pub returns-clause-refused : goal.returns-clause-refused
returns-clause-refused c =
    subst (λ (r : Result (List (List ℕ)) Reason).
    IfErr c.file_of_cut.result (MayRefuse (OfThere (λ all. CutsWithin c.args.budget.left c.args.form all c.args.font) r)))
    (sym (c.in-Ok.ensures.names ∙ ap {B = Result (List (List ℕ)) Reason} (λ (ns : List (Bor (List ℕ))). Ok (lent ns)) (sym c.as_slice.ensures.value)))
    c.file_of_cut.ensures.refused
