use Rattle.std.proofs.Common.{refl, sym}
use Rattle.t1_text.specs.Encoding.{copy_of_range}
use Rattle.t1_text.proofs.code_entry.range_copy_at.Goals as goal

pub returns-clause-value : goal.returns-clause-value
unfolding copy_of_range
returns-clause-value c =
    rw (
      sym c.in_ok-from.ensures,
      sym c.in_ok-rest.ensures,
      sym c.in_ok-to.ensures,
      sym c.in_ok-rest-2.ensures,
      sym c.in_ok-rest-3.ensures,
      sym c.in_ok-rest-4.ensures,
      sym c.in_ok-rest-5.ensures,
      sym c.if-not-are_codes.ensures,
      sym c.if-not-are_codes-2.ensures,
    ) refl
