use Rattle.std.proofs.Common.{[], ◌∷◌}
use Rattle.t1_cmd.{specs.Listings.{listing_input, JoinsTo}, proofs.{Files.{refuses_values}, JoinLemmas.{both_said}}}
use Rattle.t1_cmd.proofs.listings.join_listings.Goals as goal

pub returns-in-Ok-clause-text : goal.returns-in-Ok-clause-text
returns-in-Ok-clause-text c =
    let left = c.in_ok-left.left in
    let right = c.in_ok-right.right in
    let said = both_said c.args.first.now c.args.second.now left right c.in_ok-left.ensures.listing c.in_ok-right.ensures.listing in
    (left ∷ right ∷ [], said, c.in-Ok.ensures.text)

pub returns-clause-refused : goal.returns-clause-refused
returns-clause-refused c =
    let left = c.in_ok-left.left in
    let right = c.in_ok-right.right in
    let said = both_said c.args.first.now c.args.second.now left right c.in_ok-left.ensures.listing c.in_ok-right.ensures.listing in
    refuses_values listing_input JoinsTo (c.args.first.now ∷ c.args.second.now ∷ []) (left ∷ right ∷ []) c.in-Err.reason said c.in-Err.ensures.refused
