use Rattle.std.proofs.Common.{Bool, ℕ, List, Bor, ap, subst, ◌∙◌, IfErr}
use Rattle.t1_subset.specs.NameSets.{lent}
use Rattle.t1_cmd.specs.{Answers.{MayRefuse}, Documents.{PoolsBehind}}
use Rattle.t1_cmd.proofs.pools.joined.Goals as goal

pub returns-clause-refused : goal.returns-clause-refused
returns-clause-refused c =
    subst (λ (ds : List (List ℕ)). IfErr c.one_text.result (λ e. (tags : Bool) → MayRefuse (PoolsBehind tags ds) e))
    (ap (λ (ds : List (Bor (List ℕ))). lent ds) c.as_slice.ensures.value ∙ c.in_ok-documents.ensures) c.one_text.ensures.refused
