use Rattle.std.{proofs.Common.{◌≡◌, ◌∙◌, ◌++◌, [], ◌∷◌, rules}, specs.{Prelude.{codes}, List.{flat_map}}}
use Rattle.t1_run.specs.{Run.{direct}, Drawings.{marks_of}}
use Rattle.t1_font.specs.FontModel.{subr_at}
use Rattle.t1_cmd.{specs.DrawingText.{line, mark_line}, proofs.FontLemmas.{two_more, lines_of_marks}}
use Rattle.t1_cmd.proofs.show.push_part.Goals as goal

pub returns : goal.returns
returns c =
    let place : c.push_pair.new.out.items ≡ c.args.lines.now.text.items ++ line (codes "part") (c.args.part.now.dx ∷ c.args.part.now.dy ∷ []) = search rules in
    let marks = marks_of (direct (subr_at c.args.font.now) c.args.part.now.marks.now) in
    two_more c.args.lines.now.text.items c.push_pair.new.out.items c.trace.new.pen.text.items
    (line (codes "part") (c.args.part.now.dx ∷ c.args.part.now.dy ∷ [])) (flat_map mark_line marks)
    place
    (c.in_ok-trace.ensures.drawn c.requires ∙ lines_of_marks c.push_pair.new.out.items marks)
