use Rattle.std.proofs.Common.{◌∙◌, sym, ap}
use Rattle.t1_document.specs.Groups.{outcome_in}
use Rattle.t1_cmd.{specs.FontPlaces.{is_kept}, proofs.{FontPlaceLemmas.{one_passes, one_fails}, font_places.kept_count.Goals.{then-is_kept, else-is_kept}}}
use Rattle.t1_cmd.proofs.font_places.kept_count.Goals as goal

pub names-preserved : goal.names-preserved
names-preserved c =
    let joins = c.args.joins.now in
    let same = c.is_kept.ensures ∙ ap is_kept c.get.ensures in
    elim c.if-is_kept.branch [
      | then-is_kept w ↦
          one_passes (λ name. is_kept (outcome_in joins name)) c.args.names.now c.names.name-index c.names.kept c.if-is_kept.kept _ _
          c.names-test.true (sym same ∙ w.if-is_kept.true) w.kept-is c.names.invariant.0 c.names.invariant.1
      | else-is_kept w ↦
          one_fails (λ name. is_kept (outcome_in joins name)) c.args.names.now c.names.name-index c.names.kept c.if-is_kept.kept _ _
          c.names-test.true (sym same ∙ w.if-is_kept.false) w.kept-is c.names.invariant.0 c.names.invariant.1
    ]
