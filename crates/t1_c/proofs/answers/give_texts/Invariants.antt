use Rattle.std.proofs.Common.{◌≡◌, ◌≤◌, ◌++◌, length, drop, map, All}
use Rattle.t1_c.specs.Gives.{NamesNothing}
use Rattle.t1_c.proofs.answers.give_texts.Given as goal

abbrev pub invariant-texts : goal.invariant-texts
invariant-texts l =
    (length l.texts.items ≤ length l.answers)
    × (map (λ t. t.items) l.texts.items ++ map (λ a. a.bytes.now) (drop (length l.texts.items) l.answers) ≡ map (λ t. t.items) l.fn.texts.items)
    × All NamesNothing (drop (length l.texts.items) l.answers)

abbrev pub decreases-texts : goal.decreases-texts
decreases-texts l = goal.left-texts l
