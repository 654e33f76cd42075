use Rattle.std.proofs.Common.{refl, sym}
use Rattle.t1_text.specs.Encoding.{copied_range}
use Rattle.t1_text.proofs.code_entry.copied_range_at.Goals as goal

pub returns : goal.returns
unfolding copied_range
returns c =
    rw (
      sym c.in_ok-rest.ensures,
      sym c.in_ok-from.ensures,
      sym c.in_ok-rest-2.ensures,
      sym c.in_ok-count.ensures,
      sym c.in_ok-rest-3.ensures,
      sym c.in_ok-rest-4.ensures,
    ) refl
