use Rattle.std.proofs.Common.{◌≡◌, ℕ, List, [], ◌++◌, Vec, map, ap, ◌∙◌}
use Rattle.t1_cmd.specs.Documents.{new_lines}
use Rattle.t1_cmd.proofs.pages.families_apart.Goals as goal

-- texts as values
abbrev values : {Z : Type 0} → List (Vec ℕ Z) → List (List ℕ)
values ts = map (λ t. t.items) ts

-- lines that were added to none, and then those of another list
both : {Z : Type 0} (families names lent_families : List (Vec ℕ Z)) (lent_again lent_names : List (Vec ℕ Z)) (none once all : List ℕ) → none ≡ [] →
    lent_families ≡ families → lent_again ≡ families → lent_names ≡ names → once ≡ none ++ new_lines [] (values lent_families) →
    all ≡ once ++ new_lines (values lent_again) (values lent_names) → all ≡ new_lines [] (values families) ++ new_lines (values families) (values names)
both families names lent_families lent_again lent_names none once all n f g m o a =
    a
    ∙ (ap (λ (t : List ℕ). t ++ new_lines (values lent_again) (values lent_names))
    (o ∙ (ap (λ (t : List ℕ). t ++ new_lines [] (values lent_families)) n ∙ ap (λ ts. new_lines [] (values ts)) f))
    ∙ (ap (λ ts. new_lines [] (values families) ++ new_lines (values ts) (values lent_names)) g
    ∙ ap (λ ts. new_lines [] (values families) ++ new_lines (values families) (values ts)) m))

pub returns-clause-apart : goal.returns-clause-apart
returns-clause-apart c = (
  c.in_ok-families.families.fonts.items,
  c.in_ok-names.names.fonts.items,
  values c.in_ok-families.families.documents.items,
  c.in_ok-families.ensures.apart,
  c.in_ok-names.ensures.apart,
  c.in_ok-extend_from_slice.ensures.items ∙ ap (λ (t : List ℕ). c.in_ok-families.families.fonts.items ++ t) c.as_slice-4.ensures.value,
)

pub returns-clause-kept : goal.returns-clause-kept
returns-clause-kept c = (
  c.in_ok-families.families.fonts.items,
  values c.in_ok-families.families.documents.items,
  values c.in_ok-families.families.lines.items,
  values c.in_ok-names.names.lines.items,
  c.in_ok-families.ensures.apart,
  c.in_ok-families.ensures.lines,
  c.in_ok-names.ensures.lines,
  both c.in_ok-families.families.lines.items c.in_ok-names.names.lines.items c.as_slice.result.now c.as_slice-2.result.now c.as_slice-3.result.now
      c.new-kept.result.items c.push_lines.new.out.items c.push_lines-2.new.out.items c.new-kept.ensures.items c.as_slice.ensures.value
      c.as_slice-2.ensures.value c.as_slice-3.ensures.value c.in_ok-push_lines.ensures c.in_ok-push_lines-2.ensures,
)
