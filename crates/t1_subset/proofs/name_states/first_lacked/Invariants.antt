use Rattle.std.{proofs.Common.{◌≡◌}, specs.{Option.{option_map}, List.{find}}}
use Rattle.t1_algebra.specs.NameStates.{lacks_in}
use Rattle.std.specs.FinMap as maps
use Rattle.t1_subset.proofs.name_states.first_lacked.Given as goal

abbrev pub invariant-names : goal.invariant-names
invariant-names l = option_map (λ e. e.0) (find (lacks_in l.own l.other) l.name-iterator)
    ≡ option_map (λ e. e.0) (find (lacks_in l.own l.other) (maps.entries l.names))
