use Rattle.std.proofs.{Common.{◌≡◌, ◌∷◌, [], ◌++◌, ◌+◌, drop, map, Some, None, sym, ap, subst, ◌∙◌}, lemmas.List.{map-append, append-nil}}
use Rattle.std.specs.Option.{option_map}
use Rattle.t1_dsc.{specs.{Parts.{page_at, pages_in}, Views.{line_view, page_view}}, proofs.PageLoop.{Finding, found_more, found_all}}
use Rattle.t1_dsc.proofs.parts.pages_in.Goals.{in-Some+in_ok-push, in_default}
use Rattle.t1_dsc.proofs.parts.pages_in.Goals as goal

pub lines-init : goal.lines-init
lines-init c = ap (λ v. map page_view v ++ pages_in (map line_view c.args.lines.now)) c.new-pages.ensures.items

pub lines-preserved : goal.lines-preserved
lines-preserved c =
    let lines = c.args.lines.now in
    let was = map page_view c.lines.pages.items in
    elim c.match-page_at.branch [
      | in-Some+in_ok-push w ↦
          let is : Some (page_view w.in-Some.page) ≡ page_at (map line_view (drop c.lines.at lines)) =
          sym (ap (option_map page_view) w.in-Some.is) ∙ (c.page_at.ensures ∙ ap (λ ls. page_at (map line_view ls)) c.split_at.ensures.back) in
          let pushed : map page_view c.match-page_at.pages.items ≡ was ++ page_view w.in-Some.page ∷ [] =
          ap (λ v. map page_view v.items) w.pages-is ∙ (ap (map page_view) w.in_ok-push.ensures.items ∙ map-append page_view c.lines.pages.items (_ ∷ [])) in
          subst (Finding line_view lines (c.lines.at + 1)) (sym pushed)
          (found_more line_view lines c.lines.at c.lines-test.true was (Some (page_view w.in-Some.page)) is c.lines.invariant)
      | in_default w ↦
          let is : None ≡ page_at (map line_view (drop c.lines.at lines)) =
          sym (ap (option_map page_view) w.in_default.is) ∙ (c.page_at.ensures ∙ ap (λ ls. page_at (map line_view ls)) c.split_at.ensures.back) in
          let same : map page_view c.match-page_at.pages.items ≡ was ++ [] = ap (λ v. map page_view v.items) w.pages-is ∙ sym (append-nil was) in
          subst (Finding line_view lines (c.lines.at + 1)) (sym same)
          (found_more line_view lines c.lines.at c.lines-test.true was None is c.lines.invariant)
    ]

pub returns : goal.returns
returns c = found_all line_view c.args.lines.now c.lines.at c.lines-test.false (map page_view c.lines.pages.items) c.lines.invariant
