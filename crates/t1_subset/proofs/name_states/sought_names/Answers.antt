use Rattle.std.proofs.Common.{rules, ◌≡◌, ◌∙◌, ap, List, ◌∷◌}
use Rattle.t1_join.specs.Meaning.{Meaning}
use Rattle.t1_algebra.proofs.Tables.{with_sought, sought_next}
use Rattle.t1_subset.proofs.name_states.sought_names.Goals as goal

pub seekers-preserved : goal.seekers-preserved
seekers-preserved c = λ q.
    let e : Meaning × Meaning = (c.in-Some.component.now.now, c.in-Some.field-0-1.now.now) in
    let left : e ∷ c.next.new.self ≡ c.seekers.component-iterator = search rules in
    sought_next c.seekers.sought c.insert.new.self e c.next.new.self q c.in_ok-insert.ensures.ok
    ∙ ap (λ (es : List (Meaning × Meaning)). with_sought c.seekers.sought es q) left
    ∙ c.seekers.invariant q
