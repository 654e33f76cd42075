use Rattle.std.proofs.Common.{ap, ◌∙◌, ℕ, List}
use Rattle.t1_subset.{specs.{ClosureNames.{push_new}, NameSets.{lent}}, proofs.closing.Closures.{lent_insert}}
use Rattle.t1_subset.proofs.closure_names.ClosureNames.add.Goals as goal

pub returns : goal.returns
returns c = ap lent c.in_ok-insert.ensures.keys ∙ lent_insert c.self.inside.names.keys c.args.name
    ∙ ap (λ (ns : List (List ℕ)). push_new ns c.args.name.now) c.self.view_is
