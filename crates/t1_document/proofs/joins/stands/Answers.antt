use Rattle.std.{proofs.Common.{sym, ◌∙◌}, specs.Option.{option_map}}
use Rattle.t1_document.{specs.Views.{place_view}, proofs.JoinLoops.{like_stands, stands_more}}
use Rattle.t1_document.proofs.joins.stands.Goals.{else-not-is_like-via-then-not-is_like+in_ok-can_stand+else-not-branch, else-not-is_like-via-else-not-is_like}
use Rattle.t1_document.proofs.joins.stands.Goals as goal

pub places-preserved : goal.places-preserved
places-preserved c =
    elim c.else-not-is_like.branch [
      | else-not-is_like-via-then-not-is_like+in_ok-can_stand+else-not-branch w ↦
          stands_more c.args.text.now c.args.places.now c.places.place-index _ c.places-test.true (sym w.in_ok-can_stand.ensures ∙ w.if-not-branch.false)
          c.places.invariant.0
      | else-not-is_like-via-else-not-is_like w ↦
          stands_more c.args.text.now c.args.places.now c.places.place-index _ c.places-test.true
          (like_stands c.args.text.now (option_map (λ p. place_view p.now) c.places.before) _ (sym c.is_like.ensures ∙ w.if-not-is_like.false)
          c.places.invariant.1)
          c.places.invariant.0
    ]
