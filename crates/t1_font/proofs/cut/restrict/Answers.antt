use Rattle.std.{proofs.Common.{subst, sym}, specs.{Ordering.{nat_cmp}, BTreeSet.{contains}}}
use Rattle.t1_font.{specs.{Cut.{set_of_names}, IsFont.{IsFont}}, proofs.Kept.{restrict_is_font}}
use Rattle.std.specs.FinSet as sets
use Rattle.t1_font.proofs.cut.restrict.Goals as goal

pub invariant_of-result : goal.invariant_of-result
invariant_of-result c = subst IsFont (sym c.in_ok-parts.ensures) (restrict_is_font (sets.contains (set_of_names c.args.names.now))
    (contains nat_cmp c.args.subrs.now) c.font.inside.parts c.font.invariant c.requires.notdef)
