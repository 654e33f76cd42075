use Rattle.std.proofs.Common.{sym, ap, ◌∙◌}
use Rattle.t1_font.{specs.FontModel.{subr_at}, proofs.FontReaders.{subrs_seen}}
use Rattle.t1_font.proofs.font.Font.subr.Goals as goal

pub returns-clause-shown : goal.returns-clause-shown
returns-clause-shown c = c.subr.ensures ∙ sym (subrs_seen c.self.inside.parts c.self.invariant c.args.index) ∙ ap (λ f. subr_at f c.args.index) c.self.view_is
