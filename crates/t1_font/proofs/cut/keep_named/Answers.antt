use Rattle.std.proofs.Common.{subst, sym}
use Rattle.t1_font.{specs.Lent.{AreOwn}, proofs.LentTables.{found_put, own_put}}
use Rattle.t1_font.proofs.cut.keep_named.Goals as goal

pub returns-in_ok-insert-clause-kept : goal.returns-in_ok-insert-clause-kept
returns-in_ok-insert-clause-kept c = found_put c.args.cut.now.entries c.insert.new.self.entries
    c.args.name.now c.name.result c.in-Some.glyph _ c.in-Some.ensures c.name.ensures c.in_ok-insert.ensures.entries

pub returns-in_ok-insert-clause-own : goal.returns-in_ok-insert-clause-own
returns-in_ok-insert-clause-own c =
    λ h. subst AreOwn (sym c.in_ok-insert.ensures.entries) (own_put c.args.cut.now.entries c.name.result c.in-Some.glyph c.name.ensures h)
