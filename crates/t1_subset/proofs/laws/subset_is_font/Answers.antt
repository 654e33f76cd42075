use Rattle.t1_algebra.{specs.Profile.{profile}, proofs.{Fonts.{subset_is_font}, Subsets.{subset_weight}}}
use Rattle.t1_subset.proofs.laws.subset_is_font.Goals as goal

pub returns : goal.returns
returns c f h a i = (subset_is_font profile f h a i, subset_weight profile f a)
