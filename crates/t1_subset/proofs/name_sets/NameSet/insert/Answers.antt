use Rattle.std.proofs.Common.{◌∙◌, ap}
use Rattle.t1_font.specs.FontValue.{name_cmp}
use Rattle.t1_subset.{specs.NameSets.{set_by}, proofs.closing.NameSets.{set_insert}}
use Rattle.std.specs.FinSet as sets
use Rattle.t1_subset.proofs.name_sets.NameSet.insert.Goals as goal

pub returns-clause-ok : goal.returns-clause-ok
returns-clause-ok c = ap set_by c.in_ok-insert.ensures.keys ∙ set_insert c.self.inside.names.keys c.args.name
    ∙ ap (λ s. sets.insert {R = name_cmp} s c.args.name.items) c.self.view_is
