use Rattle.std.proofs.{Common.{ℕ, List, Bool, map, ap, ◌∙◌, Bor, Vec, sym}, lemmas.List.{map-append}}
use Rattle.t1_document.specs.{Joins.{new_texts}, Groups.{outcome_in, places_in}, Pooling.{is_left_from}, Texts.{text_in}}
use Rattle.t1_document.proofs.{PoolLoops.{key_kept, key_passed}, pooling.left_keys.Goals.{then-is_left+in_ok-push, else-is_left}}
use Rattle.t1_document.proofs.pooling.left_keys.Goals as goal

-- keys as values
abbrev values : {Z : Type 0} → Vec (Bor (List ℕ)) Z → List (List ℕ)
values keys = map (λ k. k.now) keys.items

pub keys-preserved : goal.keys-preserved
keys-preserved c =
    let left : List ℕ → Bool =
    λ key. is_left_from c.args.least (new_texts (outcome_in c.args.joins.now) key) (places_in c.args.groups.now key) (text_in c.args.ends.now key) in
    let keys = c.args.keys.now in
    elim c.if-is_left.branch [
      | then-is_left+in_ok-push w ↦
          key_kept left keys c.keys.key-index _ c.keys-test.true (values c.keys.left) (values c.if-is_left.left)
          (sym c.is_left.ensures ∙ w.if-is_left.true) c.keys.invariant
          (ap values w.left-is ∙ (ap (map (λ (k : Bor (List ℕ)). k.now)) w.in_ok-push.ensures.items ∙ map-append (λ k. k.now) c.keys.left.items _))
      | else-is_left w ↦
          ap values w.left-is ∙ key_passed left keys c.keys.key-index _ c.keys-test.true (values c.keys.left)
          (sym c.is_left.ensures ∙ w.if-is_left.false) c.keys.invariant
    ]
