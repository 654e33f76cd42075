use Rattle.std.proofs.Common.{ℕ, List, Bor, not, sym, subst, ap, ◌∙◌, ◌≤◌}
use Rattle.std.specs.{List.{AllByRecursion}, FinMap.{len, entries}, Prelude.{is_some}}
use Rattle.t1_font.specs.{FontValue.{FontValue, weight, count_limit, weight_limit}, FontModel.{encoding_of, word_of}, IsFont.{IsFont}}
use Rattle.t1_text.specs.{FontWords.{IsWord, IsCharstring}, Words.{name_limit}}
use Rattle.t1_font.specs.FontShells.{IsShellOfFont}
use Rattle.t1_font.proofs.FontShells.{font_so, codes_fit, glyphs_are, not_over, none_of_both, not_so, mapped_some}
use Rattle.t1_font.proofs.font.FontParts.make_font.Goals as goal

pub returns-then-not-encoding_fits : goal.returns-then-not-encoding_fits
returns-then-not-encoding_fits c =
    none_of_both c.encoding_fits.result c.if-not-encoding_fits.true
    (λ is. c.encoding_fits.ensures.1 (codes_fit _ (subst IsFont (sym c.self.view_is) is).encoding))

pub subrs_fit-requires : goal.subrs_fit-requires
subrs_fit-requires c =
    let of : IsShellOfFont c.self.inside.shell.now (word_of (encoding_of c.self.inside.encoding)) =
    subst (λ (f : FontValue). IsShellOfFont f.shell (word_of f.encoding)) (sym c.self.view_is) c.requires in
    (of.0, of.1, of.2)

pub returns-then-not-are_glyphs : goal.returns-then-not-are_glyphs
returns-then-not-are_glyphs c =
    none_of_both c.are_glyphs.result c.if-not-are_glyphs.true
    (λ is. c.are_glyphs.ensures.1 (subst (λ iv. AllByRecursion (λ e. IsWord name_limit e.0 × IsCharstring iv e.1) (entries c.self.inside.glyphs))
    (sym c.len_iv.ensures) (glyphs_are _ (subst IsFont (sym c.self.view_is) is))))

pub returns : goal.returns
returns c =
    let of : IsShellOfFont c.self.inside.shell.now (word_of (encoding_of c.self.inside.encoding)) =
    subst (λ (f : FontValue). IsShellOfFont f.shell (word_of f.encoding)) (sym c.self.view_is) c.requires in
    let v : FontValue =
    record { shell = c.self.inside.shell.now; encoding = encoding_of c.self.inside.encoding; subrs = c.self.inside.subrs; glyphs = c.self.inside.glyphs } in
    let glyphs = subst (λ iv. AllByRecursion (λ e. IsWord name_limit e.0 × IsCharstring iv e.1) (entries c.self.inside.glyphs))
    c.len_iv.ensures (c.are_glyphs.ensures.0 c.if-not-are_glyphs.false) in
    let has = ap is_some (sym c.get.ensures) ∙ (mapped_some (λ (b : Bor (List ℕ)). b.now) c.get.result ∙ (c.is_none.ensures ∙ ap not c.if-is_none.false)) in (
      λ h. subst IsFont c.self.view_is (font_so v of (c.encoding_fits.ensures.0 c.if-not-encoding_fits.false)
          (c.subrs_fit.ensures.0 c.if-not-subrs_fit.false) glyphs has
          (subst (λ (f : FontValue). len f.glyphs ≤ count_limit) (sym c.self.view_is) (c.is_over_limits.ensures.few (not_so _ h)))
          (subst (λ (f : FontValue). weight f ≤ weight_limit) (sym c.self.view_is) (c.is_over_limits.ensures.light (not_so _ h)))),
      λ is. not_over c.is_over_limits.result c.args.self.now c.is_over_limits.ensures.over is,
    )
