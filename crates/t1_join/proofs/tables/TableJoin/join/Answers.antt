use Rattle.t1_join.{specs.TableMeaning.{joined_table}, proofs.Sorted.{rises_of, map_of}}
use Rattle.t1_join.proofs.tables.TableJoin.join.Goals as goal

pub invariant_of-result : goal.invariant_of-result
invariant_of-result g c = rises_of _ (joined_table c.args.self.now c.args.other.now) c.in_ok-copy_both.ensures

pub returns : goal.returns
returns g c = (c.requires, map_of _ (joined_table c.args.self.now c.args.other.now) c.in_ok-copy_both.ensures)
