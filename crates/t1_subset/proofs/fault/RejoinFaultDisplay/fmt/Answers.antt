use Rattle.std.{proofs.{Common.{◌++◌, ◌∙◌, ap, sym, codes}, Output.{has_written_of_eq}}, specs.Fmt.{decimal}}
use Rattle.t1_join.specs.Shown.{shown}
use Rattle.t1_subset.specs.FaultTexts.{rejoin_text}
use Rattle.t1_subset.proofs.fault.RejoinFaultDisplay.fmt.Goals as goal

pub returns-in-Lacks-clause-writes : goal.returns-in-Lacks-clause-writes
returns-in-Lacks-clause-writes g c =
    λ plain ok.
    let text = (λ i. codes "glyph " ++ (shown (c.as_slice.ensures.value i) ++ (codes " lacks subr " ++ decimal c.in-Lacks.index)))
    ∙ ap rejoin_text (sym c.in-Lacks.is) in
    has_written_of_eq _ _ _ _ _ text (c.write.ensures.writes plain ok)
