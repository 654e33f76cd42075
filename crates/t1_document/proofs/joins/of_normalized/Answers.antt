use Rattle.std.{proofs.Common.{ℕ, List, map, sym, ap, ◌∙◌}, specs.List.{list_all}}
use Rattle.t1_document.specs.{Rewriting.{can_stand}, Views.{place_view}}
use Rattle.t1_document.proofs.joins.of_normalized.Goals as goal

pub returns-in-Ok : goal.returns-in-Ok
returns-in-Ok c = (
  c.in-Ok.text.items,
  c.in-Ok.ensures.text,
  ap (λ (t : List ℕ). list_all (can_stand t) (map place_view c.args.places.now)) (sym c.as_slice.ensures.value)
      ∙ (sym c.in_ok-stands-in-Ok.ensures ∙ c.if-branch.false),
)
