use Rattle.std.proofs.Common.{◌∙◌, ap}
use Rattle.t1_bytes.specs.Cipher.{opened}
use Rattle.t1_example.proofs.private_texts.sealed_and_opened.Goals as goal

pub returns-clause-same : goal.returns-clause-same
returns-clause-same c = c.open.ensures ∙ ap (opened 55665 4) c.in_ok-cipher.ensures.text ∙ c.opens_sealed.ensures 55665 4 c.args.text.now
