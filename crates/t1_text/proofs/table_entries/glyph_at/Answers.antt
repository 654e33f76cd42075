use Rattle.std.proofs.Common.{sym}
use Rattle.t1_text.specs.{declared.dialect.Spacing.TheVariants.{White}, Words.{next_name}}
use Rattle.t1_text.proofs.PlaceLemmas.{name_stands, behind_read}
use Rattle.t1_text.proofs.table_entries.glyph_at.Goals as goal

pub returns-clause-name : goal.returns-clause-name
returns-clause-name c = name_stands White c.args.bytes.now (c.in_ok-name.name.now, c.in_ok-name.rest.now) (sym c.in_ok-name.ensures)

pub returns-clause-body : goal.returns-clause-body
returns-clause-body c =
    behind_read (next_name White) c.args.bytes.now (_, c.in_ok-name.rest.now) (sym c.in_ok-name.ensures) c.in_ok-body.body.bytes.now c.in_ok-body.body.behind
    c.in_ok-body.ensures.place
