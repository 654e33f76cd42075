use Rattle.std.proofs.Common.{[], ◌∷◌}
use Rattle.t1_example.proofs.merged_files.both_files.Goals as goal

pub returns : goal.returns
returns c f a b h s k = c.merge_files.ensures.subsets f h a (b ∷ []) (s, (k, tt))
