use Rattle.std.proofs.Common.{ap, ◌∙◌}
use Rattle.t1_font.specs.{declared.normal_texts.KeptText.TheVariants.{Private, Middle, Tail}, NormalTexts.{squeezed_text, normal_text, normal_clear}, Normalizing.{normal_shell}}
use Rattle.t1_font.proofs.normalizing.normal_shell.Goals as goal

pub returns : goal.returns
returns c =
    let iv = c.shell.inside.len_iv in
    let clear = c.in_ok-head.ensures ∙ (λ i. normal_clear (c.as_slice.ensures.value i, c.as_slice-2.ensures.value i)) in
    let private = c.in_ok-private.ensures ∙ ap (normal_text (Private iv)) c.as_slice-3.ensures.value in
    let middle = c.in_ok-squeezed_text.ensures ∙ ap (squeezed_text Middle) c.as_slice-4.ensures.value in
    let tail = c.in_ok-squeezed_text-2.ensures ∙ ap (squeezed_text Tail) c.as_slice-5.ensures.value in
    let rd = c.in_ok-from_slice.ensures.items ∙ c.as_slice-6.ensures.value in
    let def = c.in_ok-from_slice-2.ensures.items ∙ c.as_slice-7.ensures.value in
    (λ i. record {
      head = (clear i).0;
      clear_tail = (clear i).1;
      private = private i;
      middle = middle i;
      tail = tail i;
      len_iv = iv;
      subrs = c.in_ok-raised.ensures i;
      glyphs_rd = rd i;
      glyphs_def = def i;
    })
    ∙ ap (normal_shell c.args.declared) c.shell.view_is
