use Rattle.t1_document.specs.{Joins.{new_texts}, Groups.{outcome_in, places_in}, Pooling.{entry_from}, Texts.{text_in}}
use Rattle.t1_document.proofs.PoolLoops.{Parted}
use Rattle.t1_document.proofs.entries.parts_of.Given as goal

abbrev pub invariant-keys : goal.invariant-keys
invariant-keys l =
    Parted l.start (λ key. entry_from l.least l.start key (new_texts (outcome_in l.joins) key) (places_in l.groups key)) l.keys
    l.key-index l.parts.bytes.items (text_in l.parts.ends)
