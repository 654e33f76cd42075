use Rattle.std.{proofs.Common.{◌≡◌, ◌++◌}, specs.{List.{flat_map}, FinMap.{entries}}}
use Rattle.t1_cmd.specs.ListText.{subr_length_line}
use Rattle.t1_cmd.proofs.list.push_subrs.Given as goal

abbrev pub invariant-subrs : goal.invariant-subrs
invariant-subrs l = l.out.items ++ flat_map (λ e. subr_length_line e.0 e.1) l.index-iterator
    ≡ l.initial.out.items ++ flat_map (λ e. subr_length_line e.0 e.1) (entries l.font.subrs)
