use Rattle.std.proofs.Common.{◌≡◌, refl, sym, ◌∙◌, Ok}
use Rattle.t1_font.specs.Pieces.{glyphs_from, tail_after}
use Rattle.t1_font.proofs.private.glyphs_from.Goals as goal

pub returns-clause-shown : goal.returns-clause-shown
unfolding glyphs_from
returns-clause-shown c = λ s before.
    let h = c.in_ok-glyphs.ensures.shown in
    let tail : (tail_after c.args.before.middle.items h.0.2).read ≡ Ok c.in_ok-kept.kept.now =
    (λ i. (tail_after (sym c.as_slice.ensures.value i) (sym (c.rest.ensures ∙ h.2.2) i)).read) ∙ c.in_ok-kept.ensures in (
      record {
        private = c.args.before.private.items;
        len_iv = c.args.before.len_iv;
        subrs = s;
        middle = c.args.before.middle.items;
        glyphs = h.0.0;
        tail = c.in_ok-kept.kept.now;
      },
      rw (h.1, tail) refl,
      record {
        private = refl;
        len_iv = refl;
        subrs = before.table;
        subr_bodies = λ few. c.in_ok-glyphs.ensures.others.1 ∙ before.bodies few;
        middle = refl;
        glyphs = h.2.0;
        glyph_bodies = h.2.1;
        tail = c.in_ok-tail.ensures.items;
      },
    )
