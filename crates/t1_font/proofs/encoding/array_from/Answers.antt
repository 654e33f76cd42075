use Rattle.std.proofs.Common.{refl, ap}
use Rattle.t1_font.specs.{Pieces.{encoding_from, Puts}, FontValue.{Codes}}
use Rattle.t1_font.proofs.HeldLemmas.{names_put}
use Rattle.t1_text.specs.Encoding.{from_code}
use Rattle.t1_font.proofs.encoding.array_from.Goals as goal

pub returns-in-Ok-clause-shown : goal.returns-in-Ok-clause-shown
unfolding encoding_from
returns-in-Ok-clause-shown c =
    let h = c.in-Ok.ensures.shown in
    ((Puts (from_code 0 h.0), h.2), rw h.3 refl, (ap Codes (names_put (from_code 0 h.0) _ h.4.0), h.4.1))
