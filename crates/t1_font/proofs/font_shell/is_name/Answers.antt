use Rattle.std.proofs.{Common.{sym, ◌∙◌}, lemmas.Bool.{eqb-true, eq-eqb}}
use Rattle.t1_font.proofs.FontShells.{name_so, name_front, some_bytes}
use Rattle.t1_font.proofs.font_shell.is_name.Goals as goal

pub returns : goal.returns
returns c =
    let name = c.args.name.now in
    let front = c.regular_len.result in (
      λ h. name_so name front c.regular_len.ensures (eqb-true front _ h) (some_bytes name (sym c.is_empty.ensures ∙ c.if-is_empty.false))
          c.if-name-gt-NAME_LIMIT.false c.proof_are_bytes.ensures,
      λ w. eq-eqb front _ (name_front name front c.regular_len.ensures w),
    )
