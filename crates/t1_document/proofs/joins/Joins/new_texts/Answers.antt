use Rattle.std.{proofs.Common.{◌+◌, sym, ap, ◌∙◌}, specs.Option.{option_map}}
use Rattle.t1_document.specs.{Joins.{new_texts}, Groups.{outcome_in}}
use Rattle.t1_document.proofs.{JoinLoops.{text_put, none_put, puts_same}, joins.Joins.new_texts.Goals.{in-Some+in_ok-put-in-Some, in-None}}
use Rattle.t1_document.proofs.joins.Joins.new_texts.Goals as goal

pub places-preserved : goal.places-preserved
places-preserved c =
    let new = new_texts (outcome_in c.args.self.now) in
    let places = c.args.places.now in
    let i = c.places.place-index in
    elim c.match-text.branch [
      | in-Some+in_ok-put-in-Some w ↦
          puts_same places (i + 1) new _ _ w.texts-is
          (text_put places i _ new c.places.texts w.put.new.self _ c.places-test.true
          (ap (option_map (λ t. t.now)) (sym w.in-Some.is) ∙ c.text.ensures) w.in_ok-put-in-Some.ensures.put c.places.invariant)
      | in-None w ↦
          puts_same places (i + 1) new _ _ w.texts-is
          (none_put places i _ new c.places.texts c.places-test.true (ap (option_map (λ t. t.now)) (sym w.in-None.is) ∙ c.text.ensures) c.places.invariant)
    ]
