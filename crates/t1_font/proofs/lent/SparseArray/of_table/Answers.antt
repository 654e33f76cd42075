use Rattle.std.proofs.Common.{ap, ◌∙◌, map}
use Rattle.t1_font.{specs.{Lent.{lent_number}, MadeTables.{numbered}}, proofs.MadeTables.{keyed_lent, numbers_rise, numbers_again}}
use Rattle.t1_font.proofs.lent.SparseArray.of_table.Goals as goal

pub made-requires : goal.made-requires
made-requires c =
    let entries = c.into_entries.result.items in numbers_rise (map lent_number entries) _ (keyed_lent entries ∙ c.into_entries.ensures)

pub returns : goal.returns
returns c =
    let entries = c.into_entries.result.items in
    ap numbered c.made.ensures ∙ numbers_again (map lent_number entries) _ (keyed_lent entries ∙ c.into_entries.ensures)
