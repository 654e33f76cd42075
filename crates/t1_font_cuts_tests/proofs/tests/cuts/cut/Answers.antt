use Rattle.std.{proofs.{Common.{ℕ, Bool, List, ap, subst, ◌∙◌}, lemmas.Result.{IfOk-weaker}}, specs.{Ordering.{nat_cmp}, BTreeSet.{contains}}}
use Rattle.t1_bytes.specs.declared.form.Form.TheVariants.{Pfb}
use Rattle.t1_font.specs.{FontValue.{FontValue}, IsFont.{IsFont}, Cut.{set_of_names}, Canon.{canon}}
use Rattle.std.specs.FinSet as sets
use Rattle.t1_font_cuts_tests.proofs.tests.cuts.cut.Goals as goal

pub returns : goal.returns
returns c =
    let p : List ℕ → Bool = sets.contains (set_of_names c.as_slice.result.now) in
    let s : ℕ → Bool = contains nat_cmp c.in_ok-subrs.subrs in
    let is = c.in_ok-cut.ensures in
    IfOk-weaker c.write.result _ _
    (λ v h. (p, (s, (subst IsFont is c.proof_is_font.ensures, h ∙ ap (λ (f : FontValue). canon f Pfb) is)))) c.write.ensures.canon
