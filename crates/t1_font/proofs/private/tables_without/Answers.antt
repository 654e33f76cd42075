use Rattle.std.proofs.Common.{◌≡◌, ◌∙◌, ap, sym, None, Ok}
use Rattle.t1_font.specs.Pieces.{iv_of, tables_from, glyphs_from}
use Rattle.t1_font.proofs.{AnswersRight.{shown_same}, HeldLemmas.{none_numbered}}
use Rattle.t1_text.specs.declared.dialect.Spacing.TheVariants.{White}
use Rattle.t1_font.proofs.private.tables_without.Goals as goal

pub returns-clause-shown : goal.returns-clause-shown
unfolding tables_from
returns-clause-shown c =
    let private = c.args.private.items in
    let rest = c.args.gathered.now.rest in
    let iv : (iv_of private).read ≡ Ok c.in_ok-len_iv.len_iv = ap (λ t. (iv_of t).read) (sym c.as_slice.ensures.value) ∙ sym c.in_ok-len_iv.ensures in
    shown_same _ c.glyphs_from.result (tables_from White c.args.size ((private, tt), rest) None).read
    (glyphs_from c.args.size private None c.new.result.items c.in_ok-len_iv.len_iv rest).read
    (rw iv (ap (λ m. (glyphs_from c.args.size private None m c.in_ok-len_iv.len_iv rest).read) (sym c.new.ensures.items)))
    (c.glyphs_from.ensures.shown None (record { table = tt; bodies = λ few. c.requires.subrs ∙ none_numbered }))
