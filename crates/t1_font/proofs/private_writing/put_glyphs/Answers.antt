use Rattle.std.proofs.Common.{◌∙◌}
use Rattle.t1_font.proofs.Lengths.{glyphs_begun}
use Rattle.t1_font.proofs.private_writing.put_glyphs.Goals as goal

pub glyphs-init : goal.glyphs-init
glyphs-init c = glyphs_begun c.args.out.now _ _ _ c.args.shell.now c.args.glyphs.now c.len.result _ c.len.ensures c.in_ok-put.ensures
    c.in_ok-put_number.ensures c.in_ok-put-2.ensures (c.into_iter-name-iterator.ensures.into_iter_gives ∙ c.entries-name-items.ensures)
