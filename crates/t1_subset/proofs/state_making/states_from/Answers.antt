use Rattle.std.proofs.Common.{sym, subst, ◌∙◌}
use Rattle.t1_algebra.{specs.{Profile.{profile}, StateTables.{StatesFit}}, proofs.{Fonts.{font_within}, FontStates.{fits}}}
use Rattle.t1_subset.proofs.state_tables.FontUsers.{present_below}
use Rattle.t1_subset.proofs.state_making.states_from.Goals as goal

pub returns : goal.returns
returns c = λ i. (
  c.requires.shared i,
  ((λ j. (c.in_ok-code_table.ensures j, (c.in_ok-of.ensures j, c.in_ok-subr_table.ensures j))) ∙ sym c.requires.alike.states) i,
)

pub invariant_of-result : goal.invariant_of-result
invariant_of-result c =
    subst StatesFit (λ i. (
      sym c.requires.shared i,
      (c.requires.alike.states ∙ (λ j. (sym c.in_ok-code_table.ensures j, (sym c.in_ok-of.ensures j, sym c.in_ok-subr_table.ensures j)))) i,
    ))
    ((fits profile c.args.font.now).0 (font_within c.args.font.now c.proof_is_font.ensures))

pub subr_table-requires : goal.subr_table-requires
subr_table-requires c = λ i t. c.requires.uses.users i (present_below c.args.run.now c.proof_is_font-2.ensures i t)
