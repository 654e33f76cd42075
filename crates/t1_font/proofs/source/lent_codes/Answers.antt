use Rattle.std.{proofs.Common.{◌∙◌, sym, ap, subst, map}, specs.{FinMap.{from_sorted}, Ordering.{nat_cmp}}}
use Rattle.t1_join.specs.TableMeaning.{Rises}
use Rattle.t1_font.{specs.{Lent.{lent_number}, Sources.{kept_name}}, proofs.Drains.{keyed, one_more, all_made}}
use Rattle.t1_font.proofs.source.lent_codes.Goals as goal

pub codes-init : goal.codes-init
codes-init c = ap (map lent_number) c.in_ok-lent.ensures.items

pub codes-preserved : goal.codes-preserved
codes-preserved c = one_more kept_name lent_number _ _ c.args.codes.now c.codes.code-index _ _ c.codes-test.true c.in_ok-push.ensures.items
    (keyed c.as_slice.ensures.value ∙ ap kept_name c.codes-item.is) c.codes.invariant

pub made-requires : goal.made-requires
made-requires c = subst (Rises nat_cmp)
    (sym (all_made kept_name lent_number c.codes.lent.items c.args.codes.now c.codes.code-index c.codes-test.false c.codes.invariant)) c.requires.rises

pub returns : goal.returns
returns c = c.made.ensures ∙ ap (λ es. from_sorted {R = nat_cmp} es)
    (all_made kept_name lent_number c.codes.lent.items c.args.codes.now c.codes.code-index c.codes-test.false c.codes.invariant)
