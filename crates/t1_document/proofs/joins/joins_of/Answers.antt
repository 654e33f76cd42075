use Rattle.std.proofs.{Common.{◌≡◌, ◌+◌, ℕ, List, Option, is_some, sym, ap, subst, ◌∙◌}, lemmas.List.{drop_more}}
use Rattle.t1_document.specs.{declared.joins.Outcome.{Outcome}, Documents.{Place}, Joins.{ComeTo}}
use Rattle.t1_document.proofs.JoinLoops.{had, gets, never, come_same, lent_none, lent_some}
use Rattle.t1_document.proofs.joins.joins_of.Goals.{then-is_none+in_ok-outcome+in-Some+in_ok-put-in-Some, then-is_none+in_ok-outcome+in-None, else-is_none}
use Rattle.t1_document.proofs.joins.joins_of.Goals as goal

-- what places come to, where the places of a group are these
comes : (name : List ℕ) (group ps : List Place) (o q : Option Outcome) → group ≡ ps → o ≡ q → ComeTo name group o → ComeTo name ps q
comes name group ps o q e f h = subst (λ (p : Option Outcome). ComeTo name ps p) f (subst (λ (g : List Place). ComeTo name g o) e h)

pub places-preserved : goal.places-preserved
places-preserved c =
    let ps = c.args.places.now in
    let i = c.places.place-index in
    elim c.if-is_none.branch [
      | then-is_none+in_ok-outcome+in-Some+in_ok-put-in-Some w ↦
          come_same ps (i + 1) _ _ w.joins-is
          (gets ps i _ (drop_more ps i _ c.places-test.true) c.places.joins _ w.in-Some.outcome
          (sym c.get.ensures ∙ lent_none c.get.result c.is_none.result c.is_none.ensures w.if-is_none.true)
          (comes _ _ _ _ _ (c.requires _) w.in-Some.is w.in_ok-outcome.ensures) w.in_ok-put-in-Some.ensures c.places.invariant)
      | then-is_none+in_ok-outcome+in-None w ↦
          absurd (never ps i _ (drop_more ps i _ c.places-test.true) c.places.joins
          (sym c.get.ensures ∙ lent_none c.get.result c.is_none.result c.is_none.ensures w.if-is_none.true)
          (comes _ _ _ _ _ (c.requires _) w.in-None.is w.in_ok-outcome.ensures) c.places.invariant)
      | else-is_none w ↦
          come_same ps (i + 1) _ _ w.joins-is
          (had ps i _ (drop_more ps i _ c.places-test.true) c.places.joins
          (ap (λ (o : Option Outcome). is_some o) (sym c.get.ensures) ∙ lent_some c.get.result c.is_none.result c.is_none.ensures w.if-is_none.false)
          c.places.invariant)
    ]
