use Rattle.t1_algebra.{specs.Profile.{profile}, proofs.Kept.{keep_has, keep_closed, keep_least}}
use Rattle.t1_subset.proofs.laws.keep_is_least.Goals as goal

pub returns : goal.returns
returns c f h a i = (keep_has profile f a, keep_closed profile f a h.glyphs.notdef i, λ s is k. keep_least profile f a s is k)
