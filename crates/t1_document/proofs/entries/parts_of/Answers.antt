use Rattle.std.proofs.Common.{ℕ, List, Option}
use Rattle.t1_document.specs.{declared.entries.Least.{Least}, declared.joins.Joins.{Joins}, declared.groups.Groups.{Groups}, Joins.{new_texts}}
use Rattle.t1_document.specs.{Groups.{outcome_in, places_in}, Pooling.{Entry, entry_from}, Texts.{text_in}}
use Rattle.t1_document.proofs.PoolLoops.{no_part, one_part, all_parts}
use Rattle.t1_document.proofs.entries.parts_of.Goals as goal

-- the entries of keys
abbrev entries_by : Least → List ℕ → Joins → Groups → (List ℕ → Option Entry)
entries_by least start joins groups key = entry_from least start key (new_texts (outcome_in joins) key) (places_in groups key)

pub keys-init : goal.keys-init
keys-init c =
    no_part c.args.start.now (entries_by c.args.least c.args.start.now c.args.joins.now c.args.groups.now) c.args.keys.now _ _ c.new.ensures.items
    (λ name. c.new-2.ensures name)

pub keys-preserved : goal.keys-preserved
keys-preserved c =
    one_part c.args.start.now (entries_by c.args.least c.args.start.now c.args.joins.now c.args.groups.now) c.args.keys.now c.keys.key-index _ c.keys-test.true
    c.keys.parts.bytes.items c.add.new.self.bytes.items (text_in c.keys.parts.ends) (text_in c.add.new.self.ends) _ c.in_ok-entry.ensures
    c.in_ok-add.ensures.bytes (λ name. c.in_ok-add.ensures.ends name) c.keys.invariant

pub returns-clause-bytes : goal.returns-clause-bytes
returns-clause-bytes c =
    (all_parts c.args.start.now (entries_by c.args.least c.args.start.now c.args.joins.now c.args.groups.now) c.args.keys.now c.keys.key-index c.keys-test.false
    c.keys.parts.bytes.items (text_in c.keys.parts.ends) c.keys.invariant).0

pub returns-clause-ends : goal.returns-clause-ends
returns-clause-ends c =
    (all_parts c.args.start.now (entries_by c.args.least c.args.start.now c.args.joins.now c.args.groups.now) c.args.keys.now c.keys.key-index c.keys-test.false
    c.keys.parts.bytes.items (text_in c.keys.parts.ends) c.keys.invariant).1
