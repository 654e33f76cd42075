use Rattle.std.proofs.Common.{◌≡◌, None, option_map, sym, ap, subst, ◌∙◌}
use Rattle.t1_algebra.specs.Lacks.{lack_in}
use Rattle.t1_subset.{specs.{References.{RunAlike}, Lacks.{lack_view}}, proofs.Rejoining.{filled_alike}}
use Rattle.t1_subset.proofs.rejoins.note_filled.Goals as goal

pub note_as-requires-clause-alike : goal.note_as-requires-clause-alike
note_as-requires-clause-alike c =
    let none : lack_in c.args.fonts.now c.args.font.now ≡ None = sym c.lack_by.ensures ∙ ap (option_map lack_view) c.in_default.is in
    subst (RunAlike c.args.font.now) (sym c.requires) (filled_alike c.args.fonts.now c.args.font.now none)
