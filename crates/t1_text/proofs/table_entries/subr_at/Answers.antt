use Rattle.std.proofs.Common.{sym}
use Rattle.t1_text.specs.Subrs.{subr_key}
use Rattle.t1_text.proofs.PlaceLemmas.{behind_read}
use Rattle.t1_text.proofs.table_entries.subr_at.Goals as goal

pub returns-clause-body : goal.returns-clause-body
returns-clause-body c =
    behind_read (subr_key c.args.spacing c.args.declared) c.args.bytes.now
    (_, c.in_ok-index.rest.now) (sym c.in_ok-index.ensures.value) c.in_ok-body.body.bytes.now
    c.in_ok-body.body.behind c.in_ok-body.ensures.place
