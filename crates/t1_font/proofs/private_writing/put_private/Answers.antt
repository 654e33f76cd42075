use Rattle.std.proofs.Common.{◌++◌, ap, ◌∙◌}
use Rattle.t1_font.{specs.{FontValue.{FontValue, Shell}, Canon.{canon_private}}, proofs.Lengths.{six_put}}
use Rattle.t1_font.proofs.private_writing.put_private.Goals as goal

pub returns : goal.returns
returns c =
    six_put c.args.out.now c.parts.inside.shell.now.private _ c.parts.inside.shell.now.middle _ c.parts.inside.shell.now.tail _ _ _ _ _ _ _
    (c.in_ok-put.ensures ∙ ap (λ b. c.args.out.now ++ b) (c.as_slice.ensures.value ∙ ap (λ (s : Shell). s.private) c.shell.view_is))
    c.in_ok-put_table.ensures
    (c.in_ok-put-2.ensures
    ∙ ap (λ b. c.put_table.new.out ++ b) (c.as_slice-2.ensures.value ∙ ap (λ (s : Shell). s.middle) c.shell.view_is))
    c.in_ok-put_glyphs.ensures
    (c.in_ok-put-3.ensures
    ∙ ap (λ b. c.put_glyphs.new.out ++ b) (c.as_slice-3.ensures.value ∙ ap (λ (s : Shell). s.tail) c.shell.view_is))
    c.in_ok-put-4.ensures
    ∙ ap (λ (f : FontValue). c.args.out.now ++ canon_private f) c.parts.view_is
