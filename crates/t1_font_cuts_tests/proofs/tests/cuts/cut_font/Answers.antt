use Rattle.std.{proofs.{Common.{subst, sym}, lemmas.Result.{IfOk-weaker}}, specs.{Ordering.{nat_cmp}, BTreeSet.{contains}}}
use Rattle.t1_font.{specs.{Cut.{set_of_names}, FontValue.{FontValue}, Parts.{HasShellOf}}, proofs.PartsOfOne.{cut_shell}}
use Rattle.std.specs.FinSet as sets
use Rattle.t1_font_cuts_tests.proofs.tests.cuts.cut_font.Goals as goal

pub returns : goal.returns
returns c = IfOk-weaker c.restrict.result _ _ (λ f is. subst (λ (f : FontValue). HasShellOf f c.args.font.now) (sym is)
    (cut_shell (sets.contains (set_of_names c.as_slice.result.now)) (contains nat_cmp c.in_ok-subrs.subrs) c.args.font.now)) c.restrict.ensures
