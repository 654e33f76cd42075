use Rattle.std.{proofs.Common.{ap, ◌∙◌}, specs.Option.{option_map}}
use Rattle.t1_join.{specs.Meaning.{Meaning}, proofs.Conflicts.{no_conflict, conflict_is}}
use Rattle.t1_join.proofs.tables.Table.conflict.Goals as goal

pub returns-in_err-place : goal.returns-in_err-place
returns-in_err-place g c = rw c.from_residual.ensures (no_conflict c.args.self.now c.args.other.now c.in_err-place.ensures)

pub returns-in_err-key : goal.returns-in_err-key
returns-in_err-key g c = rw c.from_residual-in_err-key.ensures (no_conflict c.args.self.now c.args.other.now
    (ap (option_map (λ (e : Meaning × Meaning). e.0)) c.in_err-key.ensures.entry ∙ c.in_ok-place.ensures))

pub returns : goal.returns
returns g c =
    conflict_is c.args.self.now c.args.other.now (g.K.Kept.meaning c.in_ok-key.field-0.now.0)
    (ap (option_map (λ (e : Meaning × Meaning). e.0)) c.in_ok-key.ensures.entry ∙ c.in_ok-place.ensures)
