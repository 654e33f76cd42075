use Rattle.t1_run.specs.declared.budget.Stop.TheVariants.{TooManyTokens}
use Rattle.std.proofs.Common.{rules, ◌≡◌, ◌+◌, ◌∙◌, ap, map, sym, subst, take_all}
use Rattle.t1_algebra.specs.{Profile.{profile}, StateTables.{states_of}}
use Rattle.t1_run.{specs.Budgets.{Spends}, proofs.Taken.{spends_nothing}}
use Rattle.t1_subset.specs.{References.{AreNoted, fonts_of}, Budgets.{font_tokens, fonts_tokens}}
use Rattle.t1_subset.proofs.{state_tables.Walks.{noted_more, shown, shown_more}, Tokens.{takes_more, refused_on, sum_taken}}
use Rattle.t1_subset.proofs.groupings.note_fonts.Goals as goal

pub fonts-init : goal.fonts-init
fonts-init c = (
  record {
    fonts = ap fonts_of c.in_ok-references.ensures.items;
    noted = subst AreNoted (sym c.in_ok-references.ensures.items) tt;
    states = c.in_ok-states.ensures.items;
  },
  spends_nothing c.args.budget.now.left,
)

pub fonts-preserved : goal.fonts-preserved
fonts-preserved c =
    let noted = c.in_ok-own in
    let next = shown_more c.args.fonts.now c.fonts.font-index _ c.fonts-test.true c.font-item.is in (
      noted_more _ _ _ _ _ _ _ _ _ c.fonts.invariant.0 next c.proof_is_font.ensures noted.ensures.font noted.ensures.references noted.ensures.states
          c.in_ok-keep.ensures.references c.in_ok-keep.ensures.states,
      takes_more font_tokens _ _ _ _ _ _ (sym next) c.fonts.invariant.1 noted.ensures.takes,
    )

pub returns-clause-fonts : goal.returns-clause-fonts
returns-clause-fonts c = c.fonts.invariant.0.fonts ∙ ap shown (take_all c.fonts.font-index c.args.fonts.now c.fonts-test.false)

pub returns-clause-states : goal.returns-clause-states
returns-clause-states c = c.fonts.invariant.0.states ∙ ap (map (states_of profile)) (sym c.fonts.invariant.0.fonts)

pub returns-clause-takes : goal.returns-clause-takes
returns-clause-takes c =
    subst (λ bs. Spends (fonts_tokens (shown bs)) c.args.budget.now.left c.fonts.budget.left)
    (take_all c.fonts.font-index c.args.fonts.now c.fonts-test.false) c.fonts.invariant.1

pub returns-in_err-own-clause-refused : goal.returns-in_err-own-clause-refused
returns-in_err-own-clause-refused c =
    let next = shown_more c.args.fonts.now c.fonts.font-index _ c.fonts-test.true c.font-item.is in
    let fewer = λ (h : c.in_err-own.field-0.0 ≡ TooManyTokens). refused_on font_tokens _ _ _ (fonts_tokens (shown c.args.fonts.now)) _ _ (sym next)
    (sum_taken (λ b. b.now) font_tokens (c.fonts.font-index + 1) c.args.fonts.now) c.fonts.invariant.1 (c.in_err-own.ensures.refused h) in
    search rules
