use Rattle.std.proofs.Common.{refl, sym}
use Rattle.t1_font.specs.Pieces.{clear_pieces}
use Rattle.t1_font.proofs.encoding.clear_parts.Goals as goal

pub returns-clause-shown : goal.returns-clause-shown
unfolding clear_pieces
returns-clause-shown c =
    let h = c.in_ok-encoding.ensures.shown in (
      record { head = c.in-Some.head.now; encoding = h.0.0; clear_tail = h.0.1 },
      rw (sym c.in-Some.ensures, sym c.in-Some-encoding_start_at.ensures, h.1) refl,
      record { head = refl; encoding = h.2.0; clear_tail = h.2.1 },
    )
