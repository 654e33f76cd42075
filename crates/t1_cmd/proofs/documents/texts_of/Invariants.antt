use Rattle.std.proofs.Common.{◌≡◌, ℕ, List, map, take}
use Rattle.t1_document.specs.{Rewriting.{is_seen}, Texts.{has_text}}
use Rattle.t1_cmd.proofs.documents.texts_of.Given as goal

abbrev pub invariant-names : goal.invariant-names
invariant-names l = (other : List ℕ) → has_text l.texts other ≡ is_seen (map (λ k. k.now) (take l.name-index l.names)) other
