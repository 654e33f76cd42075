use Rattle.std.proofs.Common.{subst}
use Rattle.t1_bytes.{specs.{Faults.{Gives}, FlatText.{flat_text}}, proofs.{SegmentLemmas.{answers}, FlatTexts.{said_flat, said_bad}}}
use Rattle.t1_bytes.proofs.pfb.flatten.Goals as goal

pub returns-clause-right : goal.returns-clause-right
returns-clause-right c = answers c.args.file.now c.flat.result c.flat.ensures

pub returns-clause-only : goal.returns-clause-only
returns-clause-only c = λ text h.
    let file = c.args.file.now in
    subst (λ f. Gives (λ v. v.items) c.flat.result f) ((flat_text file).again text (said_flat file text h)) c.flat.ensures

pub returns-clause-refused : goal.returns-clause-refused
returns-clause-refused c = λ at h.
    let file = c.args.file.now in
    subst (λ f. Gives (λ v. v.items) c.flat.result f) ((flat_text file).refused at (said_bad file at h)) c.flat.ensures
