use Rattle.t1_subset.specs.NameSets.{lent}
use Rattle.t1_cmd.{specs.Fonts.{input_by}, proofs.Files.{unread, refuses_values}}
use Rattle.t1_cmd.proofs.several.text_of_files.Goals as goal

pub returns-in-Err-clause-refused : goal.returns-in-Err-clause-refused
returns-in-Err-clause-refused g c =
    unread (input_by c.args.taking) (g.T.FontsCommand.Answers c.args.command.now) (lent c.args.files.now)
    c.in-Err.refusal.place c.in-Err.refusal.reason c.in-Err.ensures.refused

pub returns-in-Err-text-clause-refused : goal.returns-in-Err-text-clause-refused
returns-in-Err-text-clause-refused g c =
    refuses_values (input_by c.args.taking) (g.T.FontsCommand.Answers c.args.command.now) (lent c.args.files.now) c.in-Ok.sources.items c.in-Err-text.reason
    c.in-Ok.ensures.sources c.in-Err-text.ensures.refused

pub returns-clause-text : goal.returns-clause-text
returns-clause-text g c = (c.in-Ok.sources.items, c.in-Ok.ensures.sources, c.in-Ok-text.ensures.text)
