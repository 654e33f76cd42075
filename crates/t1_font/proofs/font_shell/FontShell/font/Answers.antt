use Rattle.std.proofs.Common.{ap, sym, ◌∙◌}
use Rattle.t1_font.{specs.FontModel.{word_of}, proofs.FontShells.{word_by}}
use Rattle.t1_font.proofs.font_shell.FontShell.font.Goals as goal

pub make_font-requires : goal.make_font-requires
make_font-requires c =
    let of = c.self.invariant in
    (of.0, of.1, of.2, of.3 ∙ (sym (word_by _ c.args.codes) ∙ ap word_of (sym c.encoding_by.ensures)))
