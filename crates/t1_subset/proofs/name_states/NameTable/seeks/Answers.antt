use Rattle.std.proofs.Common.{◌∙◌, ap, is_some, []}
use Rattle.t1_algebra.proofs.Tables.{some_copied, seeks_else}
use Rattle.t1_subset.proofs.name_states.NameTable.seeks.Goals as goal

pub returns-then-not-has_glyph : goal.returns-then-not-has_glyph
returns-then-not-has_glyph c = seeks_else c.self.inside.glyphs c.self.inside.sought c.self.invariant
    _ c.self.view_is c.args.name.now c.has_glyph.result _ c.has_glyph.ensures c.if-not-has_glyph.true
    (c.is_some.ensures ∙ some_copied (λ _. []) c.get.result ∙ ap is_some c.get.ensures)
