use Rattle.std.proofs.{Common.{◌<◌, ◌+◌, ◌∙◌, ℕ, List, ap, sym, arith, map, filter, drop, ◌++◌, ◌∷◌, ◌≤◌, length}, lemmas.List.{append-nil, drop_all}}
use Rattle.std.specs.Ordering.{nat_cmp}
use Rattle.t1_font.specs.{Sources.{kept_name}, CodeNames.{codes_named}}
use Rattle.t1_font.proofs.CodeTables.{codes_rise, left_named, unnamed_passed, notdef_passed, name_kept, map_behind}
use Rattle.t1_text.specs.Entries.{has_name}
use Rattle.std.specs.FinMap as fin
use Rattle.t1_font.proofs.code_names.CodeNames.kept.Goals.{then-self-code+then-not-is_notdef+in_ok-from_slice+in_ok-push, then-self-code+else-not-is_notdef, else-self-code}
use Rattle.t1_font.proofs.code_names.CodeNames.kept.Goals as goal

pub codes-preserved : goal.codes-preserved
codes-preserved c =
    let names = c.self.inside.names in
    let named = c.self.inside.named in
    let code = c.codes.code in
    let before = map kept_name c.codes.kept.items in
    let rest = left_named names named (code + 1) in
    let below : code < length names = omega (arith, c.self.invariant.names_all, c.codes-test.true) in
    let short : code < length named = omega (arith, c.self.invariant.named_all, c.codes-test.true) in
    elim c.if-self-code.branch [
      | then-self-code+then-not-is_notdef+in_ok-from_slice+in_ok-push w ↦
          ap (λ v. map kept_name v.items ++ rest) w.kept-is
          ∙ (ap (λ items. map kept_name items ++ rest) w.in_ok-push.ensures.items
          ∙ (map_behind kept_name c.codes.kept.items _ rest
          ∙ (ap (λ (n : List ℕ). before ++ ((code, n) ∷ rest)) w.in_ok-from_slice.ensures.items
          ∙ (ap (λ es. before ++ es) (sym (name_kept names named code _ below short w.if-self-code.true (sym w.if-not-is_notdef.true ∙ w.is_notdef.ensures)))
          ∙ c.codes.invariant))))
      | then-self-code+else-not-is_notdef w ↦
          ap (λ v. map kept_name v.items ++ rest) w.kept-is
          ∙ (ap (λ es. before ++ es)
          (sym (notdef_passed names named code _ below short w.if-self-code.true (sym w.if-not-is_notdef.false ∙ w.is_notdef.ensures)))
          ∙ c.codes.invariant)
      | else-self-code w ↦
          ap (λ v. map kept_name v.items ++ rest) w.kept-is
          ∙ (ap (λ es. before ++ es) (sym (unnamed_passed names named code below short w.if-self-code.false)) ∙ c.codes.invariant)
    ]

pub returns : goal.returns
returns c =
    let names = c.self.inside.names in
    let named = c.self.inside.named in
    let all : length names ≤ c.codes.code = omega (arith, c.self.invariant.names_all, c.codes-test.false) in
    sym (append-nil (map kept_name c.codes.kept.items))
    ∙ (ap (λ rest. map kept_name c.codes.kept.items ++ filter has_name (codes_named c.codes.code rest (drop c.codes.code named)))
    (sym (drop_all c.codes.code names all))
    ∙ (c.codes.invariant
    ∙ ap (filter has_name) (sym (fin.entries-from_sorted nat_cmp (codes_named 0 names named) (codes_rise names named 0)) ∙ ap fin.entries c.self.view_is)))
