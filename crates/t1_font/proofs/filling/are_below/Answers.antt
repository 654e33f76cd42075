use Rattle.std.proofs.Common.{List, ℕ, map, subst, sym, ap, ◌≡◌, ◌++◌, ◌∷◌, [], ◌∙◌}
use Rattle.std.specs.Ordering.{nat_cmp}
use Rattle.t1_join.specs.TableMeaning.{Rises}
use Rattle.t1_font.{specs.{Lent.{stub_at}, Filling.{are_below}}, proofs.FilledTables.{below_by_last}}
use Rattle.t1_font.proofs.filling.are_below.Goals as goal

pub returns-in-Some : goal.returns-in-Some
returns-in-Some c =
    let all : c.args.indices.now ≡ c.in-Some.field-0-1.now ++ c.in-Some.last.now ∷ [] = c.in-Some.ensures.cases.0 in
    below_by_last c.args.declared c.in-Some.last.now c.in-Some.field-0-1.now (subst (λ (is : List ℕ). Rises nat_cmp (map stub_at is)) all c.requires)
    ∙ sym (ap (are_below c.args.declared) all)
