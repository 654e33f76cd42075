use Rattle.std.proofs.Common.{ℕ, List, map, Bor, Vec, ap, subst, ◌∙◌}
use Rattle.t1_cmd.{specs.{Mergers.{inputs_of}, Levels.{carried, LevelsFiles}, Documents.{file_input, TellsKept}}, proofs.RunLemmas.{values_have}}
use Rattle.t1_document.specs.Joins.{places_of_all}
use Rattle.t1_cmd.proofs.levels.read_levelled.Goals as goal

-- documents that were lent
abbrev values : List (Bor (List ℕ)) → List (List ℕ)
values ds = map (λ d. d.now) ds

-- documents that are owned
abbrev owned : {Z : Type 0} → List (Vec ℕ Z) → List (List ℕ)
owned ts = map (λ t. t.items) ts

pub returns-clause-levels : goal.returns-clause-levels
returns-clause-levels g c =
    let inputs = inputs_of g.R.Read.remaining c.args.readers.now c.read_texts.new.readers in
    let same = ap values c.as_slice-2.ensures.value ∙ (c.in_ok-documents.ensures ∙ ap owned c.as_slice.ensures.value) in
    let out : List (List ℕ) = owned c.in_ok-levelled.levelled.texts.items in
    values_have file_input (λ (ds : List (List ℕ)). LevelsFiles ds out) inputs (owned c.in-Ok.texts.items) c.in-Ok.ensures.says
    (subst (λ (ds : List (List ℕ)). LevelsFiles ds out) same c.in_ok-levelled.ensures.levels)

pub returns-clause-told : goal.returns-clause-told
returns-clause-told g c =
    let inputs = inputs_of g.R.Read.remaining c.args.readers.now c.read_texts.new.readers in
    let same = ap values c.as_slice-2.ensures.value ∙ (c.in_ok-documents.ensures ∙ ap owned c.as_slice.ensures.value) in
    let kept : List ℕ = c.in_ok-levelled.levelled.kept.items in
    values_have file_input (λ (ds : List (List ℕ)). TellsKept (places_of_all (map carried ds)) kept) inputs (owned c.in-Ok.texts.items) c.in-Ok.ensures.says
    (subst (λ (ds : List (List ℕ)). TellsKept (places_of_all (map carried ds)) kept) same c.in_ok-levelled.ensures.kept)
