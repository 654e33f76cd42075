use Rattle.std.proofs.Common.{◌≡◌, [], ◌∷◌, ◌∙◌, ap, sym, subst, Ok, Err, List, ℕ}
use Rattle.t1_bytes.specs.declared.form.Form.{Form}
use Rattle.t1_cmd.specs.{declared.faults.RunFault.TheVariants.{Refused}, Inputs.{input_of}, Answers.{Prints, MayRefuse}, Runs.{RunEnds}, Fonts.{mended_input, file_answer}, Mends.{mends_answer}}
use Rattle.t1_cmd.proofs.{FontLemmas.{ends_well}, MendLemmas.{told_stops}, Refusals.{says_so}, RunLemmas.{stopped}}
use Rattle.t1_cmd.proofs.mends.run_mend.Goals as goal

pub returns-in-Err-clause-ends : goal.returns-in-Err-clause-ends
returns-in-Err-clause-ends g c =
    let i = input_of g.R.Read.remaining c.args.reader.now c.read_file.new.reader in
    stopped mended_input (Prints (file_answer c.args.form)) g.W.Write.contents (i ∷ []) c.args.writer.now (Refused c.in-Err.reason)
    (told_stops (file_answer c.args.form) i c.in_ok-file.file.items c.in-Err.reason c.in_ok-file.ensures.file
    (subst (λ (t : List ℕ). MayRefuse (λ a. a ≡ mends_answer t) c.in-Err.reason) c.as_slice.ensures.value c.in-Err.ensures.refused))

pub returns-in-Err-clause-succeeds : goal.returns-in-Err-clause-succeeds
returns-in-Err-clause-succeeds g c =
    ends_well mended_input (file_answer c.args.form) g.W.Write.contents (input_of g.R.Read.remaining c.args.reader.now c.read_file.new.reader)
    c.args.writer.now c.args.writer.now (Err (Refused c.in-Err.reason)) (returns-in-Err-clause-ends g c)

pub returns-in-Ok-write_command-clause-ends : goal.returns-in-Ok-write_command-clause-ends
returns-in-Ok-write_command-clause-ends g c =
    let i = input_of g.R.Read.remaining c.args.reader.now c.read_file.new.reader in
    let ends = c.write_command.ensures i c.in_ok-file.ensures.file in
    subst (RunEnds mended_input (Prints (file_answer c.args.form)) g.W.Write.contents (i ∷ []) c.args.writer.now c.write_command.new.writer)
    c.in-Ok-write_command.is (subst (λ (f : Form). RunEnds mended_input (Prints (file_answer f)) g.W.Write.contents (i ∷ [])
    c.args.writer.now c.write_command.new.writer c.write_command.result) c.to.ensures ends)

pub returns-in-Ok-write_command-clause-succeeds : goal.returns-in-Ok-write_command-clause-succeeds
returns-in-Ok-write_command-clause-succeeds g c =
    ends_well mended_input (file_answer c.args.form) g.W.Write.contents (input_of g.R.Read.remaining c.args.reader.now c.read_file.new.reader)
    c.args.writer.now c.write_command.new.writer (Ok tt) (returns-in-Ok-write_command-clause-ends g c)

pub returns-in-Ok-write_command-clause-told : goal.returns-in-Ok-write_command-clause-told
returns-in-Ok-write_command-clause-told g c =
    says_so mends_answer (input_of g.R.Read.remaining c.args.reader.now c.read_file.new.reader) c.in_ok-file.file.items (Ok c.in-Ok.lines.items)
    c.in_ok-file.ensures.file (sym c.in-Ok.ensures.text ∙ ap mends_answer c.as_slice.ensures.value)

pub returns-in-Err-write_command-clause-ends : goal.returns-in-Err-write_command-clause-ends
returns-in-Err-write_command-clause-ends g c =
    let i = input_of g.R.Read.remaining c.args.reader.now c.read_file.new.reader in
    let ends = c.write_command.ensures i c.in_ok-file.ensures.file in
    subst (RunEnds mended_input (Prints (file_answer c.args.form)) g.W.Write.contents (i ∷ []) c.args.writer.now c.write_command.new.writer)
    c.in-Err-write_command.is (subst (λ (f : Form). RunEnds mended_input (Prints (file_answer f)) g.W.Write.contents (i ∷ [])
    c.args.writer.now c.write_command.new.writer c.write_command.result) c.to.ensures ends)

pub returns-in-Err-write_command-clause-succeeds : goal.returns-in-Err-write_command-clause-succeeds
returns-in-Err-write_command-clause-succeeds g c =
    ends_well mended_input (file_answer c.args.form) g.W.Write.contents (input_of g.R.Read.remaining c.args.reader.now c.read_file.new.reader)
    c.args.writer.now c.write_command.new.writer (Err c.in-Err-write_command.fault) (returns-in-Err-write_command-clause-ends g c)
