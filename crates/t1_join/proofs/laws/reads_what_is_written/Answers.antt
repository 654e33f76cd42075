use Rattle.t1_join.proofs.WrittenLemmas.{read_written}
use Rattle.t1_join.proofs.laws.reads_what_is_written.Goals as goal

pub returns : goal.returns
returns c = read_written c.args.listing.now c.proof_holds_what_lines_spell.ensures
