use Rattle.std.proofs.{Common.{Some}, lemmas.Map.Text.{btree_map_updates_str}}
use Rattle.t1_document.proofs.joins.Joins.put.Goals as goal

pub returns-in-Ok : goal.returns-in-Ok
returns-in-Ok c = λ other.
    btree_map_updates_str c.args.name.now c.args.self.now.outcomes c.insert.new.self (Some c.args.outcome) c.in-Ok.ensures.updates other
