use Rattle.std.proofs.{Common.{◌≡◌, ◌+◌, ap, sym, subst, ◌∙◌, map, drop, List, ℕ, true}, lemmas.Result.{IfOk-weaker}, lemmas.List.{drop_all}}
use Rattle.std.specs.{Ordering.{nat_cmp}, FinMap.{contains_key, from_sorted}}
use Rattle.t1_join.proofs.Sorted.{no_entries}
use Rattle.t1_font.specs.{declared.font.Font.TheInside.{Inside}, FontValue.{FontValue, SparseArray}, Lent.{lent_number}, Maps.{merged}}
use Rattle.t1_font.proofs.normal_fonts.Filled.{IndicesSoFar, none_so_far, one_more_font, no_more_font, has_keys, stubs_of, all_stubs}
use Rattle.t1_font.proofs.filling.stubs_of_all.Goals.{then-not-has_all+in_ok-all, else-not-has_all}
use Rattle.t1_font.proofs.filling.stubs_of_all.Goals as goal

pub fonts-init : goal.fonts-init
fonts-init c =
    none_so_far _ c.args.fonts.now (c.made-all.ensures ∙ ap (λ es. from_sorted {R = nat_cmp} (map lent_number es)) c.new.ensures.items ∙ no_entries nat_cmp)

pub fonts-preserved : goal.fonts-preserved
fonts-preserved c =
    let fs = c.args.fonts.now in
    let i = c.fonts.font-index in
    let f = c.font-item.result in
    let subrs : c.font-inside.inside.0.0.subrs ≡ f.subrs =
    ap (λ (s : Inside). s.parts.subrs) c.font-inside.view_is ∙ ap (λ (f : FontValue). f.subrs) c.font.view_is in
    elim c.if-not-has_all.branch [
      | then-not-has_all+in_ok-all w ↦ subst (λ (m : SparseArray). IndicesSoFar m (drop (i + 1) fs) fs) (sym w.all-is)
          (one_more_font c.fonts.all fs fs i f f c.fonts-test.true
          (sym c.font-item.is) c.fonts.invariant w.in_ok-all.all (w.in_ok-all.ensures ∙ ap (merged c.fonts.all) subrs))
      | else-not-has_all w ↦ subst (λ (m : SparseArray). IndicesSoFar m (drop (i + 1) fs) fs) (sym w.all-is)
          (no_more_font c.fonts.all fs fs i f f c.fonts-test.true (sym c.font-item.is) c.fonts.invariant
          (subst (λ (n : SparseArray). (q : ℕ) → contains_key n q ≡ true → contains_key c.fonts.all q ≡ true) subrs
          (has_keys c.fonts.all _ (sym c.has_all.ensures ∙ w.if-not-has_all.false))))
    ]

pub returns : goal.returns
returns c =
    let fs = c.args.fonts.now in
    IfOk-weaker c.cut_subrs.result _ _ (λ m e. stubs_of c.fonts.all m fs
    (subst (λ (gs : List FontValue). IndicesSoFar c.fonts.all gs fs) (drop_all c.fonts.font-index fs c.fonts-test.false) c.fonts.invariant)
    (e ∙ all_stubs c.new-2.result c.fonts.all c.new-2.ensures.empty)) c.cut_subrs.ensures
