use Rattle.std.proofs.Common.{ℕ, List, map, Vec, Ok, sym, subst}
use Rattle.t1_cmd.specs.{declared.faults.RunFault.TheVariants.{Refused}, Mergers.{inputs_of}, Runs.{RunEnds}, Documents.{text_input}, Pages.{PoolsTo, TellsPooling}}
use Rattle.t1_cmd.proofs.{RunLemmas.{stopped, write_ends, values_have}, Refusals.{answer_stops}}
use Rattle.t1_cmd.proofs.pools.write_pooled.Goals as goal

-- documents as values
abbrev texts : {Z : Type 0} → List (Vec ℕ Z) → List (List ℕ)
texts ts = map (λ t. t.items) ts

pub returns-in-Err-pool_owned-clause-ends : goal.returns-in-Err-pool_owned-clause-ends
returns-in-Err-pool_owned-clause-ends g c =
    let inputs = inputs_of g.R.Read.remaining c.args.readers.now c.read_texts.new.readers in
    stopped text_input (PoolsTo c.args.how) g.W.Write.contents inputs c.args.writer.now (Refused c.in-Err-pool_owned.reason)
    (answer_stops text_input (PoolsTo c.args.how) inputs (texts c.in-Ok.documents.items) c.in-Err-pool_owned.reason c.in-Ok.ensures.says
    c.in-Err-pool_owned.ensures.refused)

pub returns-in-Ok-write_text-clause-ends : goal.returns-in-Ok-write_text-clause-ends
returns-in-Ok-write_text-clause-ends g c =
    let inputs = inputs_of g.R.Read.remaining c.args.readers.now c.read_texts.new.readers in
    let answer : PoolsTo c.args.how (texts c.in-Ok.documents.items) (Ok c.as_slice.result.now) =
    subst (λ (t : List ℕ). PoolsTo c.args.how (texts c.in-Ok.documents.items) (Ok t)) (sym c.as_slice.ensures.value) c.in-Ok-pool_owned.ensures.text in
    subst (RunEnds text_input (PoolsTo c.args.how) g.W.Write.contents inputs c.args.writer.now c.write_text.new.writer) c.in-Ok-write_text.is
    (write_ends text_input (PoolsTo c.args.how) g.W.Write.contents inputs (texts c.in-Ok.documents.items) c.args.writer.now c.write_text.new.writer
    c.as_slice.result.now c.write_text.result c.in-Ok.ensures.says answer
    c.write_text.ensures.whole c.write_text.ensures.fault c.write_text.ensures.prefix c.write_text.ensures.rose)

pub returns-in-Ok-write_text-clause-told : goal.returns-in-Ok-write_text-clause-told
returns-in-Ok-write_text-clause-told g c =
    let inputs = inputs_of g.R.Read.remaining c.args.readers.now c.read_texts.new.readers in
    values_have text_input (λ (ds : List (List ℕ)). TellsPooling c.args.how ds c.in-Ok-pool_owned.pooled.kept.items)
    inputs (texts c.in-Ok.documents.items) c.in-Ok.ensures.says c.in-Ok-pool_owned.ensures.kept

pub returns-in-Err-write_text-clause-ends : goal.returns-in-Err-write_text-clause-ends
returns-in-Err-write_text-clause-ends g c =
    let inputs = inputs_of g.R.Read.remaining c.args.readers.now c.read_texts.new.readers in
    let answer : PoolsTo c.args.how (texts c.in-Ok.documents.items) (Ok c.as_slice.result.now) =
    subst (λ (t : List ℕ). PoolsTo c.args.how (texts c.in-Ok.documents.items) (Ok t)) (sym c.as_slice.ensures.value) c.in-Ok-pool_owned.ensures.text in
    subst (RunEnds text_input (PoolsTo c.args.how) g.W.Write.contents inputs c.args.writer.now c.write_text.new.writer) c.in-Err-write_text.is
    (write_ends text_input (PoolsTo c.args.how) g.W.Write.contents inputs (texts c.in-Ok.documents.items) c.args.writer.now c.write_text.new.writer
    c.as_slice.result.now c.write_text.result c.in-Ok.ensures.says answer
    c.write_text.ensures.whole c.write_text.ensures.fault c.write_text.ensures.prefix c.write_text.ensures.rose)
