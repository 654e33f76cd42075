use Rattle.std.proofs.Common.{◌≡◌, ℕ, List, inr, sym, subst, Ok}
use Rattle.t1_cmd.{specs.{Inputs.{input_of}, Listings.{listing_input}}, proofs.Refusals.{says_so}}
use Rattle.t1_cmd.proofs.listings.joined_with.Goals as goal

pub returns-in-Ok-joined_text-clause-text : goal.returns-in-Ok-joined_text-clause-text
returns-in-Ok-joined_text-clause-text g c =
    let second = input_of g.S.Read.remaining c.args.second.now c.read_text.new.reader in
    let right = c.in-Ok.right in
    let spelled = subst (λ (t : List ℕ). listing_input t ≡ Ok right) c.as_slice.ensures.value c.in-Ok.ensures.listing in
    (right, says_so listing_input second c.in_ok-text.text.items (Ok right) c.in_ok-text.ensures.text (sym spelled), c.in-Ok-joined_text.ensures.text)

pub returns-clause-refused : goal.returns-clause-refused
returns-clause-refused g c =
    let second = input_of g.S.Read.remaining c.args.second.now c.read_text.new.reader in
    let right = c.in-Ok.right in
    let spelled = subst (λ (t : List ℕ). listing_input t ≡ Ok right) c.as_slice.ensures.value c.in-Ok.ensures.listing in
    inr (right, says_so listing_input second c.in_ok-text.text.items (Ok right) c.in_ok-text.ensures.text (sym spelled), c.in-Err-joined_text.ensures.refused)
