use Rattle.std.{proofs.Common.{◌≡◌, drop, None}, specs.Option.{option_map}}
use Rattle.t1_subset.specs.References.{seeker_from}
use Rattle.t1_subset.proofs.references.seeker.Given as goal

abbrev pub invariant-references : goal.invariant-references
invariant-references l = seeker_from (option_map (λ n. n.now) l.seeker) (drop l.references-index l.fn.references) l.component
    ≡ seeker_from None l.fn.references l.component
