use Rattle.std.proofs.{Common.{◌∙◌, ◌++◌, ◌∷◌, [], map, sym, ap}, lemmas.List.{map-append}}
use Rattle.t1_c.{specs.Gives.{place_labels}, proofs.LabelLemmas.{one_label_more}}
use Rattle.t1_c.proofs.labels.place_labels.Goals as goal

pub labels-preserved : goal.labels-preserved
labels-preserved c =
    ap (map (λ v. v.items)) c.in_ok-push_item.ensures.added
    ∙ map-append (λ v. v.items) c.labels.labels.items (c.in_ok-label.label ∷ [])
    ∙ ap (λ labels. labels ++ c.in_ok-label.label.items ∷ []) c.labels.invariant
    ∙ ap (λ label. place_labels c.labels.place ++ label ∷ []) c.in_ok-label.ensures
    ∙ sym (one_label_more c.labels.place)
