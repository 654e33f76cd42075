use Rattle.std.{proofs.Common.{◌≡◌, Option, Some, None, ap, sym, ◌∙◌, subst, refl}, specs.{FinMap.{keys}, Prelude.{MatchOption, IsSome}}}
use Rattle.t1_font.specs.{FontValue.{FontValue}, FontModel.{font_by}, IsFont.{IsFont}}
use Rattle.t1_algebra.{specs.{Profile.{profile}, StateTables.{states_of}}, proofs.FontStates.{font_made}}
use Rattle.t1_subset.proofs.state_value.States.into_font.Goals as goal

-- what is not refused is there
there : {A : Type 0} (o : Option A) (P : Type 0) (Q : A → Type 0) → MatchOption o (¬ P) Q → P → IsSome o
there None P Q h p = absurd (h p)
there (Some x) P Q h p = refl

pub unwrap-requires : goal.unwrap-requires
unwrap-requires c =
    let own = c.shared.inside in
    let states = c.self.inside in
    let is = (λ i. (c.shared.view_is i, (states.codes, (states.names, states.subrs)))) ∙ (c.self.view_is ∙ c.requires.2) in
    let made = font_made profile c.requires.0 ((own.shell.0, (own.shell.1, keys own.subrs)), (states.codes, (states.names, states.subrs))) is
    c.of_table-codes.result own.subrs c.in_ok-subrs.subrs c.into_glyphs.result c.of_table-codes.ensures refl c.in_ok-subrs.ensures c.into_glyphs.ensures in
    there c.font-font.result _ _ c.font-font.ensures (subst IsFont (sym made) c.requires.1)

pub returns : goal.returns
returns c =
    let own = c.shared.inside in
    let states = c.self.inside in
    let is = (λ i. (c.shared.view_is i, (states.codes, (states.names, states.subrs)))) ∙ (c.self.view_is ∙ c.requires.2) in
    let made = font_made profile c.requires.0 ((own.shell.0, (own.shell.1, keys own.subrs)), (states.codes, (states.names, states.subrs))) is
    c.of_table-codes.result own.subrs c.in_ok-subrs.subrs c.into_glyphs.result c.of_table-codes.ensures refl c.in_ok-subrs.ensures c.into_glyphs.ensures in
    let whole : FontValue = font_by own.shell.0 own.shell.1 c.of_table-codes.result c.in_ok-subrs.subrs c.into_glyphs.result in
    let same : c.unwrap.result ≡ whole =
    subst (λ (o : Option FontValue). MatchOption o (¬ IsFont whole) (λ f. f ≡ whole)) c.unwrap.ensures c.font-font.ensures in
    c.requires.2 ∙ ap (states_of profile) (sym (same ∙ made))
