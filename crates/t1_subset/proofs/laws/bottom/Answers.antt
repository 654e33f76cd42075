use Rattle.t1_algebra.{specs.Profile.{profile}, proofs.Subsets.{bottom, sought_lacks}}
use Rattle.t1_subset.proofs.laws.bottom.Goals as goal

pub returns : goal.returns
returns c f h a i = (bottom profile f h.glyphs.notdef a i, sought_lacks profile f h.glyphs.notdef a i)
