use Rattle.std.proofs.Common.{◌≡◌, ◌↔◌, ℕ, List, [], ◌∷◌, true, subst, sym}
use Rattle.t1_cmd.{specs.{Inputs.{input_of}, Fonts.{font_input}, Runs.{RunEnds}, Diffs.{ListsConflicts}, Budgets.{DiffersWithin}}, proofs.{RunLemmas.{write_ends}, DiffLemmas.{says_join}}}
use Rattle.t1_cmd.proofs.diffs.run_diff_within.Goals as goal

pub returns-in-Ok-write_text-clause-ends : goal.returns-in-Ok-write_text-clause-ends
returns-in-Ok-write_text-clause-ends g c =
    let first = input_of g.R.Read.remaining c.args.first.now c.read_font.new.reader in
    let second = input_of g.S.Read.remaining c.args.second.now c.read_font-2.new.reader in
    let left = c.in-Ok.left in let right = c.in-Ok-read_font.right in
    subst (RunEnds font_input (DiffersWithin c.args.budget.left) g.W.Write.contents (first ∷ second ∷ []) c.args.writer.now c.write_text.new.writer)
    c.in-Ok-write_text.is
    (write_ends font_input (DiffersWithin c.args.budget.left) g.W.Write.contents (first ∷ second ∷ []) (left ∷ right ∷ []) c.args.writer.now
    c.write_text.new.writer
    c.as_slice.result.now c.write_text.result (c.in-Ok.ensures.ends, (c.in-Ok-read_font.ensures.ends, tt))
    (subst (λ (t : List ℕ). ListsConflicts left right t) (sym c.as_slice.ensures.value) c.in-Ok-diff_text.ensures.text, c.in-Ok-diff_text.ensures.enough)
    c.write_text.ensures.whole c.write_text.ensures.fault c.write_text.ensures.prefix c.write_text.ensures.rose)

pub returns-in-Ok-write_text-clause-joins : goal.returns-in-Ok-write_text-clause-joins
returns-in-Ok-write_text-clause-joins g c =
    let first = input_of g.R.Read.remaining c.args.first.now c.read_font.new.reader in
    let second = input_of g.S.Read.remaining c.args.second.now c.read_font-2.new.reader in
    let left = c.in-Ok.left in let right = c.in-Ok-read_font.right in
    says_join (first ∷ second ∷ []) left right c.is_nothing.result c.in-Ok-diff_text.text.items
    (c.in-Ok.ensures.ends, (c.in-Ok-read_font.ensures.ends, tt))
    (subst (λ (t : List ℕ). (c.is_nothing.result ≡ true) ↔ (t ≡ [])) c.as_slice-in-Ok-write_text.ensures.value c.is_nothing.ensures)
    c.in-Ok-diff_text.ensures.joins

pub returns-clause-ends : goal.returns-clause-ends
returns-clause-ends g c =
    let first = input_of g.R.Read.remaining c.args.first.now c.read_font.new.reader in
    let second = input_of g.S.Read.remaining c.args.second.now c.read_font-2.new.reader in
    let left = c.in-Ok.left in let right = c.in-Ok-read_font.right in
    subst (RunEnds font_input (DiffersWithin c.args.budget.left) g.W.Write.contents (first ∷ second ∷ []) c.args.writer.now c.write_text.new.writer)
    c.in-Err-write_text.is
    (write_ends font_input (DiffersWithin c.args.budget.left) g.W.Write.contents (first ∷ second ∷ []) (left ∷ right ∷ []) c.args.writer.now
    c.write_text.new.writer
    c.as_slice.result.now c.write_text.result (c.in-Ok.ensures.ends, (c.in-Ok-read_font.ensures.ends, tt))
    (subst (λ (t : List ℕ). ListsConflicts left right t) (sym c.as_slice.ensures.value) c.in-Ok-diff_text.ensures.text, c.in-Ok-diff_text.ensures.enough)
    c.write_text.ensures.whole c.write_text.ensures.fault c.write_text.ensures.prefix c.write_text.ensures.rose)
