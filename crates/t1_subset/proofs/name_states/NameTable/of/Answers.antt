use Rattle.std.proofs.Common.{◌∙◌, ap}
use Rattle.t1_font.specs.FontValue.{CharStrings}
use Rattle.t1_algebra.specs.StateTables.{names_table}
use Rattle.t1_subset.proofs.state_tables.Conflicts.{names_made}
use Rattle.t1_subset.proofs.name_states.NameTable.of.Goals as goal

pub returns : goal.returns
returns c = ap (λ (g : CharStrings). names_table g c.in_ok-sought_names.field-0) (c.in_ok-copy.ensures ∙ c.glyphs.ensures)
    ∙ names_made c.args.font.now c.in_ok-sought_names.field-0 c.args.seekers.now c.in_ok-sought_names.ensures c.requires
