use Rattle.std.proofs.Common.{rules, ◌≡◌, ◌∙◌, sym, ap, map, List, ℕ, Result, Ok}
use Rattle.std.specs.FinMap.{get}
use Rattle.t1_font.specs.FontModel.{subr_at}
use Rattle.t1_run.specs.{Drawings.{draw}, Pictures.{picture_of, placed, traced}}
use Rattle.t1_run.specs.declared.drawings.Drawing.TheVariants as drawing
use Rattle.t1_cmd.specs.{declared.faults.Reason.{Reason}, DrawingText.{drawn_lines, picture_answer}}
use Rattle.t1_cmd.proofs.show.shown_glyph.Goals as goal

pub returns-in_ok-text-in-Drawn-clause-text : goal.returns-in_ok-text-in-Drawn-clause-text
returns-in_ok-text-in-Drawn-clause-text c =
    let f = c.args.font.now in
    let d = c.in-Drawn in
    let picture : picture_of (traced (subr_at f)) (drawing.Drawn d.width d.sb d.parts) ≡ draw (subr_at f) (get f.glyphs) c.args.name.now = search rules in
    let text : drawn_lines d.width d.sb (map (placed (traced (subr_at f))) d.parts.items) ≡ c.in_ok-text-in-Drawn.text.items = search rules in
    ap (picture_answer c.args.name.now) (sym picture) ∙ ap {B = Result (List ℕ) Reason} (λ (t : List ℕ). Ok t) text
