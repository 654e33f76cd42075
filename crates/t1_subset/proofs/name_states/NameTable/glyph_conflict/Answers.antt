use Rattle.t1_algebra.proofs.Tables.{lowest_differing}
use Rattle.t1_subset.proofs.name_states.NameTable.glyph_conflict.Goals as goal

pub returns : goal.returns
returns c = lowest_differing c.self.inside.glyphs c.self.inside.sought c.self.invariant _ c.self.view_is
    c.other.inside.glyphs c.other.inside.sought c.other.invariant _ c.other.view_is _ c.first_differing.ensures
