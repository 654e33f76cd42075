use Rattle.std.proofs.Common.{◌+◌, refl, sym, ◌∙◌, ap}
use Rattle.t1_font.specs.FontModel.{clamp}
use Rattle.t1_algebra.{specs.StateTables.{name_adds}, proofs.Sums.{joined_total, joined_count}}
use Rattle.t1_subset.proofs.name_states.NameTable.extent_with.Goals as goal

pub returns : goal.returns
returns c =
    let total = joined_total c.self.inside.glyphs c.self.inside.sought c.self.invariant _ c.self.view_is c.other.inside.glyphs
    c.other.inside.sought c.other.invariant _ c.other.view_is c.requires (name_adds c.args.len_iv) (λ n. refl) in
    let count = joined_count c.self.inside.glyphs c.self.inside.sought c.self.invariant _ c.self.view_is
    c.other.inside.glyphs c.other.inside.sought c.other.invariant _ c.other.view_is c.requires in
    record {
      weight = c.extent_with.ensures.weight ∙ ap (λ n. clamp (c.args.before + n)) (sym total);
      count = c.extent_with.ensures.count ∙ ap clamp (sym count);
    }
