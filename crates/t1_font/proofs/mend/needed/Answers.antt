use Rattle.t1_font.proofs.Mended.{all_tried}
use Rattle.t1_font.proofs.mend.needed.Goals as goal

pub returns-clause-mends : goal.returns-clause-mends
returns-clause-mends c = all_tried c.args.file.now _ _ _ _ _ _ _ _ _ _ c.wide-dialect.ensures c.new-mends.ensures.items
    c.in_ok-dialect.ensures.mends c.in_ok-dialect-2.ensures.mends c.in_ok-dialect-3.ensures.mends c.in_ok-without.ensures.mends
