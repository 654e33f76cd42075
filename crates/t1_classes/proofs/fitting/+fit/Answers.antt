use Rattle.std.proofs.Common.{rules, ◌++◌, T, subst, ap, ◌∙◌}
use Rattle.std.proofs.Math.Facts.{eqb_yes}
use Rattle.t1_classes.specs.{Joining.{joins}, Partition.{fitted}, Views.{lent, fit_view}}
use Rattle.t1_classes.proofs.Halves.{none_lent, all_lent, one_lent, halves_lent}
use Rattle.t1_classes.proofs.fitting.+fit.Goals as goal

pub returns-then-is_empty : goal.returns-then-is_empty
returns-then-is_empty t c n short =
    (λ i. record { group = lent (c.in_ok-from_slice.ensures.items i); left = lent (c.new.ensures.items i) })
    ∙ none_lent (joins c.args.name.now) n c.args.group.now c.args.files.now short (eqb_yes (subst T c.if-is_empty.ensures tt))

pub returns-then-branch : goal.returns-then-branch
returns-then-branch t c n short =
    (λ i. record { group = lent c.in_ok-all.all.items; left = lent (c.new-then-branch.ensures.items i) })
    ∙ all_lent (joins c.args.name.now) n c.args.group.now c.args.files.now short (lent c.in_ok-all.all.items) c.in_ok-joins.field-0
    (search rules) c.in_ok-all.ensures
    (c.in_ok-joins.ensures ∙ ap (λ xs. joins c.args.name.now (lent xs)) c.as_slice.ensures.value) c.if-branch.true

pub returns-then-files-le1 : goal.returns-then-files-le1
returns-then-files-le1 t c n short =
    (λ i. record { group = lent (c.in_ok-from_slice-2.ensures.items i); left = lent (c.in_ok-from_slice-3.ensures.items i) })
    ∙ one_lent (joins c.args.name.now) n c.args.group.now c.args.files.now short (lent c.in_ok-all.all.items) c.in_ok-joins.field-0
    c.if-files-le1.true c.in_ok-all.ensures
    (c.in_ok-joins.ensures ∙ ap (λ xs. joins c.args.name.now (lent xs)) c.as_slice.ensures.value) c.if-branch.false

pub returns : goal.returns
returns t c n short =
    (λ i. record {
      group = lent c.in_ok-second.second.group.items;
      left = (c.in_ok-left.ensures ∙ (λ j. lent (c.as_slice-3.ensures.value j) ++ lent (c.as_slice-4.ensures.value j))) i;
    })
    ∙ halves_lent (joins c.args.name.now) n c.args.group.now c.args.files.now short (lent c.in_ok-all.all.items) c.in_ok-joins.field-0
    (fit_view c.in_ok-first.first) (fit_view c.in_ok-second.second) c.split_at.result.0.now c.split_at.result.1.now
    (search rules) c.in_ok-all.ensures
    (c.in_ok-joins.ensures ∙ ap (λ xs. joins c.args.name.now (lent xs)) c.as_slice.ensures.value) c.if-branch.false
    c.split_at.ensures.front c.split_at.ensures.back c.in_ok-first.ensures
    (λ m le. c.in_ok-second.ensures m le ∙ ap (λ xs. fitted (joins c.args.name.now) m (lent xs) (lent c.split_at.result.1.now)) c.as_slice-2.ensures.value)
