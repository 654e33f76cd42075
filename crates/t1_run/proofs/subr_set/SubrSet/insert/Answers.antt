use Rattle.std.{proofs.Common.{◌≡◌, sym, ap, subst, ◌∙◌, ℕ, List, [], ◌∷◌, nat_cmp}, specs.BTreeSet.{insert_key}}
use Rattle.t1_run.{specs.Run.{with_indices}, proofs.Indices.{with_listed, some_listed, with_indices-append}}
use Rattle.t1_run.proofs.subr_set.SubrSet.insert.Goals as goal

pub returns-then-is_in-clause-added : goal.returns-then-is_in-clause-added
returns-then-is_in-clause-added c =
    subst (λ (set : List ℕ). set ≡ insert_key nat_cmp set c.args.index) c.self.view_is
    (sym (with_listed c.self.inside.order.items [] c.args.index
    (some_listed c.self.inside.places.items c.self.inside.order.items c.args.index c.self.invariant (sym c.is_in.ensures ∙ c.if-is_in.true))))

pub returns-clause-added : goal.returns-clause-added
returns-clause-added c =
    ap (with_indices []) c.in_ok-push.ensures.items
    ∙ with_indices-append [] c.self.inside.order.items (c.args.index ∷ [])
    ∙ ap (λ (set : List ℕ). insert_key nat_cmp set c.args.index) c.self.view_is
