use Rattle.std.proofs.lemmas.Result.{IfErr-weaker}
use Rattle.t1_subset.proofs.state_tables.Walks.{refused_at_second, shared_by_two}
use Rattle.t1_subset.proofs.groupings.first_share.Goals as goal

pub returns-in-len2-up-clause-err : goal.returns-in-len2-up-clause-err
returns-in-len2-up-clause-err c = IfErr-weaker c.share.result _ _
    (λ e h. refused_at_second c.args.fonts.now c.first-item.result c.second-item.result c.in-len2-up.len_at_least c.first-item.is c.second-item.is e h)
    c.share.ensures.err

pub returns-in-len2-up-clause-memory : goal.returns-in-len2-up-clause-memory
returns-in-len2-up-clause-memory c = IfErr-weaker c.share.result _ _
    (λ e h both. h (shared_by_two c.args.fonts.now c.first-item.result c.second-item.result c.in-len2-up.len_at_least c.first-item.is c.second-item.is both))
    c.share.ensures.memory
