use Rattle.std.proofs.{Common.{◌++◌, ◌∙◌, ap, sym, codes}, Output.{has_written_of_eq}}
use Rattle.t1_join.specs.Shown.{shown}
use Rattle.t1_subset.specs.FaultTexts.{conflict_text}
use Rattle.t1_subset.proofs.conflict.ConflictDisplay.fmt.Goals as goal

pub returns-in-Part-clause-writes : goal.returns-in-Part-clause-writes
returns-in-Part-clause-writes g c =
    λ plain ok.
    let text = (λ i. codes "glyph " ++ (shown (c.as_slice-in-Part.ensures.value i) ++ (codes " lacks part " ++ shown (c.as_slice-in-Part-2.ensures.value i))))
    ∙ ap conflict_text (sym c.in-Part.is) in
    has_written_of_eq _ _ _ _ _ text (c.write-in-Part.ensures.writes plain ok)
