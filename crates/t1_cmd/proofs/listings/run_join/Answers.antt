use Rattle.std.proofs.Common.{◌≡◌, ℕ, List, [], ◌∷◌, Ok, subst, sym}
use Rattle.t1_cmd.{specs.{Inputs.{input_of}, Listings.{listing_input, JoinsTo}}, proofs.{Refusals.{says_so}, RunLemmas.{write_ends}}}
use Rattle.t1_cmd.proofs.listings.run_join.Goals as goal

pub returns-clause-ends : goal.returns-clause-ends
returns-clause-ends g c =
    let first = input_of g.R.Read.remaining c.args.first.now c.read_text.new.reader in
    let second = input_of g.S.Read.remaining c.args.second.now c.joined_with.new.second in
    let left = c.in-Ok.left in
    let spelled = subst (λ (t : List ℕ). listing_input t ≡ Ok left) c.as_slice.ensures.value c.in-Ok.ensures.listing in
    let said = says_so listing_input first c.in_ok-text.text.items (Ok left) c.in_ok-text.ensures.text (sym spelled) in
    let both = c.in-Ok-joined_with.ensures.text in
    write_ends listing_input JoinsTo g.W.Write.contents (first ∷ second ∷ []) (left ∷ both.0 ∷ [])
    c.args.writer.now c.write_text.new.writer c.as_slice-2.result.now c.write_text.result (said, (both.1, tt))
    (subst (λ (t : List ℕ). JoinsTo (left ∷ both.0 ∷ []) (Ok t)) (sym c.as_slice-2.ensures.value) both.2)
    c.write_text.ensures.whole c.write_text.ensures.fault c.write_text.ensures.prefix c.write_text.ensures.rose
