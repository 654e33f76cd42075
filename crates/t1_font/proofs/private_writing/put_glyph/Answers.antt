use Rattle.std.proofs.Common.{◌++◌, ap, ◌∙◌}
use Rattle.t1_font.{specs.{Canon.{glyph_entry}, FontModel.{shell_view}, FontValue.{Shell}, Writing.{glyph_text}}, proofs.Lengths.{glyph_put, after_key}}
use Rattle.t1_font.proofs.private_writing.put_glyph.Goals as goal

pub returns : goal.returns
returns c =
    glyph_put c.args.out.now _ _ _
    (shell_view c.shell.inside) c.args.name.now c.args.plain.now c.in_ok-put.ensures c.in_ok-put-2.ensures
    (c.in_ok-put_body.ensures ∙ (λ i. c.put-2.new.self
    ++ after_key c.shell.inside.len_iv c.args.plain.now (c.as_slice.ensures.value i) (c.as_slice-2.ensures.value i)))
    ∙ ap (λ (s : Shell). c.args.out.now ++ glyph_text (glyph_entry s (c.args.name.now, c.args.plain.now))) c.shell.view_is
