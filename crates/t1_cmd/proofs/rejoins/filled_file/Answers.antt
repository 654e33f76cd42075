use Rattle.std.proofs.Common.{inl, subst, Ok, List}
use Rattle.t1_font.specs.{FontValue.{FontValue}, Canon.{canon}}
use Rattle.t1_subset.specs.{Budgets.{rejoin_tokens, IsEnough}, Rejoins.{Rejoin}}
use Rattle.t1_cmd.{specs.Budgets.{NotRejoinedWithin}, proofs.{Budgets.{not_rejoined}, MergeLemmas.{same_text}, RejoinLemmas.{with_no_lack}}}
use Rattle.t1_cmd.proofs.rejoins.filled_file.Goals as goal

pub returns-in-Err-clause-refused : goal.returns-in-Err-clause-refused
returns-in-Err-clause-refused c = λ fonts from.
    c.reason_of.ensures c.args.budget.left c.args.form fonts
    (subst (λ (fs : List FontValue). NotRejoinedWithin c.args.budget.left fs c.in-Err.fault) from
    (not_rejoined _ c.args.budget.left c.args.sources.now c.in-Err.fault c.in-Err.ensures.err c.in-Err.ensures.within))

pub returns-clause-text : goal.returns-clause-text
returns-clause-text c = λ fonts from.
    let r = subst (λ (fs : List FontValue). Rejoin fs c.in-Ok.font) from c.in-Ok.ensures.ok in (
      with_no_lack c.args.form fonts (Ok c.in_ok-text.text.items) r.lacks
          (inl (r.light, (c.in-Ok.font, r.comes, same_text (canon c.in-Ok.font c.args.form) c.in_ok-text.text.items c.in_ok-text.ensures))),
      subst (λ (fs : List FontValue). IsEnough c.args.budget.left (rejoin_tokens fs)) from c.in-Ok.ensures.within,
    )
