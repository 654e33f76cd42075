use Rattle.std.proofs.Common.{refl}
use Rattle.t1_font.proofs.private.glyphs_parts.Goals as goal

pub returns-in-Ok-clause-shown : goal.returns-in-Ok-clause-shown
returns-in-Ok-clause-shown c =
    let h = c.in-Ok.ensures.shown in
    ((h.0, h.1, h.2), rw h.3 refl, h.4)
