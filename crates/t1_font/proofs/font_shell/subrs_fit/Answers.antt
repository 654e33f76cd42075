use Rattle.std.proofs.Common.{◌<◌, ℕ, List, length, ap, sym, ◌∙◌, subst}
use Rattle.std.specs.{Prelude.{◌==◌}, List.{AllByRecursion}}
use Rattle.t1_font.specs.{FontValue.{Shell}, IsFont.{SubrsFit}}
use Rattle.t1_text.specs.FontWords.{IsCharstring}
use Rattle.t1_font.proofs.FontShells.{subrs_so, subrs_are, alike}
use Rattle.std.specs.FinMap as fin
use Rattle.t1_font.proofs.font_shell.subrs_fit.Goals as goal

pub returns : goal.returns
returns c =
    let shell = c.args.shell.now in
    let old : SubrsFit shell shell.subrs c.requires.0.subrs = subst (λ (s : Shell). SubrsFit s s.subrs c.requires.0.subrs) c.requires.2 c.requires.1.subrs in
    let same =
    sym c.is_empty-2.ensures
    ∙ (alike c.is_empty-2.result c.is_empty-3.result c.if-is_empty.false ∙ (c.is_empty-3.ensures ∙ ap (λ (t : List ℕ). length t == 0) c.text.ensures)) in (
      λ h. subrs_so shell shell.subrs c.requires.0.subrs c.args.subrs.now (sym c.has_subrs.ensures ∙ c.if-not-has_subrs.false) old same
          (subst (λ (p : ℕ × ℕ). AllByRecursion (λ e. (e.0 < p.0) × IsCharstring p.1 e.1) (fin.entries c.args.subrs.now))
          (λ i. (c.declared_count.ensures i, c.len_iv.ensures i)) (c.are_subrs.ensures.0 h)),
      λ fit. c.are_subrs.ensures.1 (subst (λ (p : ℕ × ℕ). AllByRecursion (λ e. (e.0 < p.0) × IsCharstring p.1 e.1) (fin.entries c.args.subrs.now))
          (λ i. (sym c.declared_count.ensures i, sym c.len_iv.ensures i)) (subrs_are shell shell.subrs c.args.subrs.now fit)),
    )
