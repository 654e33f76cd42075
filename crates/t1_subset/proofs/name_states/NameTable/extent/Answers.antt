use Rattle.std.proofs.Common.{◌+◌, refl, sym, ◌∙◌, ap}
use Rattle.t1_font.specs.{FontModel.{clamp}, FontValue.{total}}
use Rattle.t1_algebra.{specs.StateTables.{name_adds, name_counts}, proofs.Sums.{names_total, names_count}}
use Rattle.std.specs.FinMap as maps
use Rattle.t1_subset.proofs.name_states.NameTable.extent.Goals as goal

pub returns : goal.returns
returns c =
    let adds = name_adds c.args.len_iv in
    let weight =
    sym (names_total c.self.inside.glyphs c.self.inside.sought c.self.invariant adds (λ n. refl)) ∙ ap (λ t. total adds (maps.entries t)) c.self.view_is in
    let count = sym (names_count c.self.inside.glyphs c.self.inside.sought c.self.invariant) ∙ ap (λ t. total name_counts (maps.entries t)) c.self.view_is in
    record { weight = c.weight.ensures ∙ ap (λ n. clamp (c.args.before + n)) weight; count = c.len.ensures ∙ count }
