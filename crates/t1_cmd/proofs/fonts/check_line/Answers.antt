use Rattle.std.{proofs.Common.{ap, ◌∙◌, sym, Ok, ◌∷◌, ◌++◌, []}, specs.{Prelude.{codes}, Fmt.{decimal}, FinMap.{len}}}
use Rattle.t1_font.specs.FontValue.{weight}
use Rattle.t1_cmd.proofs.FontLemmas.{four_pieces}
use Rattle.t1_cmd.proofs.fonts.check_line.Goals as goal

pub returns : goal.returns
returns c =
    sym
    (ap Ok
    (four_pieces c.new-text.result.items c.push_about.new.out.items c.push_about-2.new.out.items c.push_about-3.new.out.items c.push.new.self.items
    (codes "ok ") (decimal (len c.args.font.now.glyphs)) (codes " glyphs, ") (decimal (len c.args.font.now.subrs)) (codes " subrs, weight ")
    (decimal (weight c.args.font.now)) (10 ∷ [])
    c.new-text.ensures.items
    (c.in_ok-push_about.ensures ∙ ap (λ n. c.new-text.result.items ++ (codes "ok " ++ decimal n)) (c.len.ensures ∙ ap len c.glyphs.ensures))
    (c.in_ok-push_about-2.ensures ∙ ap (λ n. c.push_about.new.out.items ++ (codes " glyphs, " ++ decimal n)) (c.len-2.ensures ∙ ap len c.subrs.ensures))
    (c.in_ok-push_about-3.ensures ∙ ap (λ n. c.push_about-2.new.out.items ++ (codes " subrs, weight " ++ decimal n)) c.weight.ensures)
    c.in_ok-push.ensures.items))
