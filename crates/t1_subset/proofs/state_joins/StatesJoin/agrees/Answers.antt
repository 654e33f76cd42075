use Rattle.t1_algebra.proofs.FontStates.{agree_by_parts}
use Rattle.t1_subset.proofs.state_joins.StatesJoin.agrees.Goals as goal

pub returns-then-parts_agree : goal.returns-then-parts_agree
returns-then-parts_agree c =
    let exactly = agree_by_parts c.args.self.now c.args.other.now c.proof_fits.ensures in
    (λ t. exactly.1 (c.parts_agree.ensures.0 c.if-parts_agree.true, c.fits_with.ensures.0 t), λ h. c.fits_with.ensures.1 (exactly.0 h).1)
