use Rattle.std.proofs.{Common.{ℕ, List, map, Bor, sym, ap, ◌∙◌}, lemmas.List.{take_all}}
use Rattle.t1_document.proofs.LevelLemmas.{map_twice}
use Rattle.t1_cmd.specs.Levels.{carried}
use Rattle.t1_cmd.proofs.levels.all_carried.Goals as goal

pub returns : goal.returns
returns c =
    c.files.invariant
    ∙ (ap (map (λ (f : Bor (List ℕ)). carried f.now)) (take_all c.files.file-index c.args.files.now c.files-test.false)
    ∙ sym (map_twice carried (λ (f : Bor (List ℕ)). f.now) c.args.files.now))
