use Rattle.std.{proofs.Common.{ap, sym, ◌∙◌, map}, specs.Option.{option_map}}
use Rattle.t1_join.proofs.TablePlaces.{stands_copied}
use Rattle.t1_font.specs.Lent.{numbered_entries, lent_number}
use Rattle.t1_font.proofs.lent.RefSparseArraySortedTable.at.Goals as goal

pub returns-in-Made-clause-entry : goal.returns-in-Made-clause-entry
returns-in-Made-clause-entry c = ap (option_map lent_number) c.copied.ensures ∙ stands_copied lent_number c.deref.result.now
    (numbered_entries c.self.inside.form) c.args.self.now (ap numbered_entries c.in-Made.is ∙ ap (map lent_number) (sym c.deref.ensures.value))
    c.self.invariant c.self.view_is c.args.place c.get-in-Made.result c.get-in-Made.ensures.lookup
