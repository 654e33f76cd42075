use Rattle.std.proofs.Common.{◌≡◌, ◌+◌, refl, sym, ap, ◌∙◌, ℕ, Bool, true, false, ◌||◌, cond, Option, Some, None, List, [], ◌∷◌, get_or, drop, drop-cons, add-one}
use Rattle.std.specs.{List.{list_any}, Cmp.{nat_cmp_total}}
use Rattle.t1_algebra.{specs.{Shared.{same_number}, States.{joined_option}}, proofs.Sets.{cases}}
use Rattle.t1_subset.{specs.Users.{user_at}, proofs.closing.NumberSets.{any_with}}
use Rattle.std.specs.FinSet as sets
use Rattle.t1_subset.proofs.users.note_users.Goals as goal

-- noting one index, and then those behind it, is noting both
noted_step : (g : List ℕ) (x y z : Option (List ℕ)) (b rest : Bool) → y ≡ joined_option x (cond b (Some g) None) →
    joined_option x (cond (b || rest) (Some g) None) ≡ z → joined_option y (cond rest (Some g) None) ≡ z
noted_step g x y z b rest e f = ap (λ (o : Option (List ℕ)). joined_option o (cond rest (Some g) None)) e ∙ (both x b ∙ f)
  where
    both : (x : Option (List ℕ)) (b : Bool) →
        joined_option (joined_option x (cond b (Some g) None)) (cond rest (Some g) None) ≡ joined_option x (cond (b || rest) (Some g) None)
    both (Some v) b = refl
    both None true = refl
    both None false = refl

pub calls-init : goal.calls-init
calls-init c = λ q.
    grind (cases, c.as_slice-index-items.ensures, any_with q [] c.as_slice-index-items.result.now, sets.contains-from_list nat_cmp_total c.args.calls.now q)

pub calls-preserved : goal.calls-preserved
calls-preserved c =
    let all : List ℕ = c.as_slice-index-items.result.now in
    let i : ℕ = c.calls.index-index in
    let next : drop i all ≡ get_or all i 0 ∷ drop (i + 1) all = rw (add-one i) (drop-cons all i 0 c.calls-test.true) in
    λ q. noted_step c.args.glyph.now (user_at c.calls.users.items q) (user_at c.note_user.new.users.items q) _ (same_number q (get_or all i 0))
    (list_any (same_number q) (drop (i + 1) all)) (c.in_ok-note_user.ensures q)
    (ap (λ (l : List ℕ). joined_option (user_at c.calls.users.items q) (cond (list_any (same_number q) l) (Some c.args.glyph.now) None)) (sym next)
    ∙ c.calls.invariant q)
