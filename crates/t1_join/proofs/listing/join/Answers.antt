use Rattle.std.proofs.Common.{subst}
use Rattle.t1_join.{specs.{ListingMeaning.{ListingMeaning}, ListingJoin.{IsJoined}}, proofs.ListingLemmas.{both_listed}}
use Rattle.t1_join.proofs.listing.join.Goals as goal

pub invariant_of-result : goal.invariant_of-result
invariant_of-result c =
    rw (c.in_ok-subrs.ensures.1, c.in_ok-glyphs.ensures.1)
    (both_listed (record { subrs = c.left.inside.subrs; glyphs = c.left.inside.glyphs })
    (record { subrs = c.right.inside.subrs; glyphs = c.right.inside.glyphs }) c.left.invariant c.right.invariant)

pub returns : goal.returns
returns c =
    let both : ListingMeaning = record { subrs = c.in_ok-subrs.subrs; glyphs = c.in_ok-glyphs.glyphs } in
    subst (λ l. IsJoined l c.args.right.now both) c.left.view_is
    (subst (λ r. IsJoined (record { subrs = c.left.inside.subrs; glyphs = c.left.inside.glyphs }) r both) c.right.view_is
    (record {
      subrs_agree = c.in_ok-subrs.ensures.0;
      glyphs_agree = c.in_ok-glyphs.ensures.0;
      subrs = c.in_ok-subrs.ensures.1;
      glyphs = c.in_ok-glyphs.ensures.1;
    }))
