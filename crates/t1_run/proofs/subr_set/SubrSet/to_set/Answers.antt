use Rattle.std.proofs.Common.{◌≡◌, sym, ap, ◌∙◌, ◌+◌, List, ◌∷◌, ℕ, get_or, drop, drop-cons, add-one}
use Rattle.t1_run.specs.Run.{with_indices}
use Rattle.t1_run.proofs.subr_set.SubrSet.to_set.Goals as goal

pub indices-preserved : goal.indices-preserved
indices-preserved c =
    let all : List ℕ = c.as_slice-index-items.result.now in
    let i : ℕ = c.indices.index-index in
    let next : drop i all ≡ get_or all i 0 ∷ drop (i + 1) all = rw (add-one i) (drop-cons all i 0 c.indices-test.true) in
    ap (λ (set : List ℕ). with_indices set (drop (i + 1) all)) c.in_ok-insert.ensures.keys
    ∙ ap (with_indices c.indices.set.keys) (sym next)
    ∙ c.indices.invariant
