use Rattle.std.{proofs.Common.{◌≡◌, ◌++◌, take}, specs.List.{flat_map}}
use Rattle.t1_run.specs.Pictures.{placed, traced}
use Rattle.t1_font.specs.FontModel.{subr_at}
use Rattle.t1_cmd.specs.DrawingText.{part_lines}
use Rattle.t1_cmd.proofs.show.push_parts.Given as goal

abbrev pub invariant-loop-part : goal.invariant-loop-part
invariant-loop-part l =
    l.lines.text.items ≡ l.initial.lines.text.items ++ flat_map (λ p. part_lines (placed (traced (subr_at l.font)) p)) (take l.part-index l.parts)
