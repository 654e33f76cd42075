use Rattle.std.proofs.Common.{◌≡◌, ℕ, cond, List, [], Bor, map, ap, ◌∙◌}
use Rattle.std.specs.Prelude.{filter, ◌||◌}
use Rattle.t1_document.specs.{Documents.{Place}, Joins.{new_texts, names_from}, Groups.{outcome_in, places_in}, Texts.{text_in}, Views.{place_view}}
use Rattle.t1_document.specs.Pooling.{any_clashes, entry_from, keyed, keys_of, places_by, is_left_from}
use Rattle.t1_document.proofs.PooledDocuments.{ends_so, left_so}
use Rattle.t1_document.proofs.pooling.entries_among.Goals as goal

-- keys as values
abbrev values : List (Bor (List ℕ)) → List (List ℕ)
values ks = map (λ k. k.now) ks

pub returns-clause-left : goal.returns-clause-left
returns-clause-left c =
    let least = c.args.least in
    let start = c.args.start.now in
    let by = c.args.by in
    let new = new_texts (outcome_in c.args.joins.now) in
    let own = map place_view c.args.own.now in
    let groups = c.in_ok-groups.groups in
    let ends = text_in c.in_ok-parts.parts.ends in
    let there : (key : List ℕ) → places_in groups key ≡ places_by by key own = λ key. c.in_ok-groups.ensures key in
    let names : values c.in_ok-all.all.items ≡ names_from [] (keyed by own) = c.in_ok-all.ensures ∙ ap (λ (ps : List Place). names_from [] ps) c.requires in
    let keys : values c.keys_of-keys.result.now ≡ keys_of start by own =
    c.keys_of-keys.ensures
    ∙ (ap (λ (ps : List Place). cond (any_clashes start own || any_clashes start ps) [] (values c.as_slice.result.now)) c.requires
    ∙ ap (λ (ks : List (List ℕ)). cond (any_clashes start own || any_clashes start (keyed by own)) [] ks) (ap values c.as_slice.ensures.value ∙ names)) in
    left_so least start by new own (values c.in_ok-all.all.items) (values c.in_ok-left.left.items) (places_in groups) ends there
    (λ name. c.in_ok-parts.ensures.ends name
    ∙ ends_so least start by new own (λ key. entry_from least start key (new key) (places_in groups key)) (values c.keys_of-keys.result.now)
    (λ key. ap (entry_from least start key (new key)) (there key)) keys name)
    names
    (c.in_ok-left.ensures
    ∙ ap (λ (ks : List (Bor (List ℕ))). filter (λ key. is_left_from least (new key) (places_in groups key) (ends key)) (values ks)) c.as_slice-2.ensures.value)
