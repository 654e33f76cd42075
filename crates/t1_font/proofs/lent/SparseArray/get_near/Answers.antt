use Rattle.std.{proofs.Common.{sym, ap, ◌∙◌}, specs.{Cmp.{nat_cmp_total}, FinMap.{get, nat_cmp-IsAntisymmetric}}}
use Rattle.t1_font.proofs.LentTables.{value_at}
use Rattle.t1_font.proofs.lent.SparseArray.get_near.Goals as goal

pub returns-in-Some : goal.returns-in-Some
returns-in-Some c =
    sym (value_at nat_cmp_total nat_cmp-IsAntisymmetric c.args.self.now c.args.place (c.in-Some.there, c.in-Some.body.now) (sym c.in-Some.ensures.entry))
    ∙ ap (get c.args.self.now) c.if-there-number.true
