use Rattle.std.{proofs.Common.{◌≡◌, ◌∙◌, subst}, specs.Prelude.{IfOk}}
use Rattle.t1_bytes.specs.declared.form.Form.TheVariants.{Pfa}
use Rattle.t1_font.specs.{FontValue.{FontValue}, Canon.{canon}}
use Rattle.t1_cmd.proofs.extracts.untested_pfa.Goals as goal

pub returns : goal.returns
returns c =
    subst (λ (f : FontValue). IfOk c.write-text.result (λ text. text.items ≡ canon f Pfa)) (c.in_ok-font.ensures ∙ c.in_ok-source.ensures)
    c.write-text.ensures.canon
