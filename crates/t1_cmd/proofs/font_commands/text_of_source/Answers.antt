use Rattle.std.{proofs.Common.{◌≡◌, subst, Ok}, specs.Prelude.{IfOk, IfErr}}
use Rattle.t1_font.specs.FontValue.{FontValue}
use Rattle.t1_cmd.specs.Answers.{MayRefuse}
use Rattle.t1_cmd.proofs.font_commands.text_of_source.Goals as goal

pub returns-clause-text : goal.returns-clause-text
returns-clause-text g c =
    subst (λ (f : FontValue). IfOk c.text.result (λ text. g.T.FontCommand.answer c.args.command.now f ≡ Ok text.items))
    c.in_ok-font.ensures c.text.ensures.text

pub returns-clause-refused : goal.returns-clause-refused
returns-clause-refused g c =
    subst (λ (f : FontValue). IfErr c.text.result (MayRefuse (λ a. a ≡ g.T.FontCommand.answer c.args.command.now f)))
    c.in_ok-font.ensures c.text.ensures.refused
