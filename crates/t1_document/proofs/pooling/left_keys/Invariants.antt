use Rattle.std.{proofs.Common.{◌≡◌, map, take}, specs.Prelude.{filter}}
use Rattle.t1_document.specs.{Joins.{new_texts}, Groups.{outcome_in, places_in}, Pooling.{is_left_from}, Texts.{text_in}}
use Rattle.t1_document.proofs.pooling.left_keys.Given as goal

abbrev pub invariant-keys : goal.invariant-keys
invariant-keys l = map (λ k. k.now) l.left.items
    ≡ filter (λ key. is_left_from l.least (new_texts (outcome_in l.joins) key) (places_in l.groups key) (text_in l.ends key))
    (map (λ k. k.now) (take l.key-index l.keys))
