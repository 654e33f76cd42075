use Rattle.std.proofs.Common.{refl, arith, length}
use Rattle.t1_text.proofs.TagLemmas.{walked_on, walked_through}
use Rattle.t1_text.proofs.tags.untagged.Goals as goal

pub tags-init : goal.tags-init
tags-init c = (length c.args.bytes.now, omega arith, refl)

pub tags-preserved : goal.tags-preserved
tags-preserved c = (walked_on c.args.bytes.now c.tags.rest.now c.in-Some.behind.now c.tags.invariant c.in-Some.ensures).0

pub returns : goal.returns
returns c = walked_through c.args.bytes.now c.tags.rest.now c.tags.invariant c.in_default.ensures

pub tags-smaller : goal.tags-smaller
tags-smaller c = (walked_on c.args.bytes.now c.tags.rest.now c.in-Some.behind.now c.tags.invariant c.in-Some.ensures).1
