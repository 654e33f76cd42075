use Rattle.std.{proofs.Common.{◌≡◌, ◌∙◌, ap, ◌++◌, [], ◌∷◌, List, ℕ, map, rules}, specs.{Prelude.{codes}, List.{flat_map}}}
use Rattle.t1_run.specs.Pictures.{placed, traced}
use Rattle.t1_font.specs.FontModel.{subr_at}
use Rattle.t1_cmd.{specs.DrawingText.{line, part_lines}, proofs.FontLemmas.{three_pieces, flat_map_placed}}
use Rattle.t1_cmd.proofs.show.drawn.Goals as goal

pub returns : goal.returns
returns c =
    let width : c.push_pair.new.out.items ≡ c.new-text.result.items ++ line (codes "width") (c.args.width.x ∷ c.args.width.y ∷ []) = search rules in
    let bearing : c.push_pair-2.new.out.items ≡ c.push_pair.new.out.items ++ line (codes "bearing") (c.args.bearing.x ∷ c.args.bearing.y ∷ []) = search rules in
    three_pieces c.new-text.result.items c.push_pair.new.out.items c.push_pair-2.new.out.items c.push_parts.new.lines.text.items
    (line (codes "width") (c.args.width.x ∷ c.args.width.y ∷ [])) (line (codes "bearing") (c.args.bearing.x ∷ c.args.bearing.y ∷ []))
    (flat_map part_lines (map (placed (traced (subr_at c.args.font.now))) c.args.parts.now))
    c.new-text.ensures.items width bearing
    (c.in_ok-push_parts.ensures
    ∙ ap (λ (t : List ℕ). c.push_pair-2.new.out.items ++ t) (flat_map_placed part_lines (placed (traced (subr_at c.args.font.now))) c.args.parts.now))
