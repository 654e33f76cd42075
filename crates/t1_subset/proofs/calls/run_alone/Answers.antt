use Rattle.std.proofs.Common.{◌∙◌, ap}
use Rattle.t1_algebra.specs.Profile.{set_of}
use Rattle.std.specs.FinSet as sets
use Rattle.std.proofs.lemmas.Result.{on_ok_weaker}
use Rattle.t1_subset.proofs.closing.{Runs.{calls_by}, NumberSets.{none_union}}
use Rattle.t1_subset.proofs.calls.run_alone.Goals as goal

pub returns-clause-calls : goal.returns-clause-calls
returns-clause-calls c =
    on_ok_weaker c.run.result
    (λ h n there. h n there ∙ (ap (λ s. sets.union (set_of s) (calls_by c.args.font.now n)) c.clear.ensures ∙ none_union (calls_by c.args.font.now n)))
    c.run.ensures.calls
