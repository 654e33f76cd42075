use Rattle.std.{proofs.Common.{◌≡◌, ◌++◌, [], map, drop}, specs.{Prelude.{if◌then◌else◌}, List.{flat_map}}}
use Rattle.t1_document.specs.Texts.{has_text}
use Rattle.t1_cmd.proofs.documents.push_others.Given as goal

abbrev pub invariant-lines : goal.invariant-lines
invariant-lines l =
    l.out.items ++ flat_map (λ line. if has_text l.told line then [] else line) (map (λ t. t.items) (drop l.line-index l.lines))
    ≡ l.fn.out.items ++ flat_map (λ line. if has_text l.told line then [] else line) (map (λ t. t.items) l.lines)
