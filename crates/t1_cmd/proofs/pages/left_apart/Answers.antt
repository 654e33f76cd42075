use Rattle.std.proofs.Common.{ℕ, List, Bor, Vec, Global, map, ap, subst, ◌∙◌, IfOk}
use Rattle.t1_subset.specs.NameSets.{lent}
use Rattle.t1_document.specs.declared.pooling.Key.TheVariants.{Name}
use Rattle.t1_cmd.specs.Pages.{TellsApart}
use Rattle.t1_cmd.proofs.pages.left_apart.Goals as goal

pub returns-clause-lines : goal.returns-clause-lines
returns-clause-lines c =
    subst (λ (ds : List (List ℕ)). IfOk c.keys_apart.result (λ a. TellsApart Name ds (map (λ l. l.items) a.lines.items)))
    (ap (λ (ds : List (Bor (List ℕ))). lent ds) c.as_slice-2.ensures.value
    ∙ (c.in_ok-documents.ensures ∙ ap (map (λ (d : Vec ℕ Global). d.items)) c.as_slice.ensures.value)) c.keys_apart.ensures.lines
