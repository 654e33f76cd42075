use Rattle.std.proofs.{Common.{ℕ, List, Bor, map, sym, ◌∙◌}, lemmas.{List.{length-map}, Result.{IfOk-weaker}}}
use Rattle.t1_subset.specs.NameSets.{lent}
use Rattle.t1_c.proofs.LevelLemmas.{levels_long}
use Rattle.t1_c.proofs.level_answers.Goals as goal

pub give_each-requires : goal.give_each-requires
give_each-requires c =
    IfOk-weaker c.level_files.result _ _ (λ l levels.
    sym (length-map l.texts.items (λ t. t.items))
    ∙ (levels_long (lent c.args.documents.now) (map (λ t. t.items) l.texts.items) levels
    ∙ (length-map c.args.documents.now (λ (d : Bor (List ℕ)). d.now) ∙ sym c.if-answers-documents.false))) c.level_files.ensures.levels
