use Rattle.std.{proofs.Common.{◌≡◌, drop, None}, specs.Option.{option_map}}
use Rattle.t1_subset.specs.References.{user_from}
use Rattle.t1_subset.proofs.references.user.Given as goal

abbrev pub invariant-references : goal.invariant-references
invariant-references l = user_from (option_map (λ n. n.now) l.user) (drop l.references-index l.fn.references) l.index ≡ user_from None l.fn.references l.index
