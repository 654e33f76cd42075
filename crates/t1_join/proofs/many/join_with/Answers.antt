use Rattle.t1_join.proofs.FrontLemmas.{refused_more, joined_more}
use Rattle.t1_join.proofs.many.join_with.Goals as goal

pub returns-in-Some : goal.returns-in-Some
returns-in-Some g c before h = joined_more g.met.J.Join.laws g.J.Join.meaning before (g.J.Join.meaning c.args.joined.now) h c.args.list.now c.requires
    c.in_ok-more.field-0 c.in_ok-more.ensures c.in-Some.more c.in-Some.is c.join_if_agreed.result c.join_if_agreed.ensures

pub returns-in-None : goal.returns-in-None
returns-in-None g c before h = refused_more g.met.J.Join.laws g.J.Join.meaning before (g.J.Join.meaning c.args.joined.now) h c.args.list.now c.requires
    c.in_ok-more.field-0 c.in_ok-more.ensures c.in-None.is
