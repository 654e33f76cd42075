use Rattle.std.{proofs.Common.{◌≡◌, ◌+◌, ℕ, drop, get_or, sym, ap, ◌∙◌}, specs.Prelude.{max}}
use Rattle.t1_font.specs.{FontValue.{FontValue, declared_count}, Normalizing.{largest_count}}
use Rattle.t1_font.proofs.{normal_fonts.Filled.{count_step, count_done, bigger, no_bigger}, normalizing.largest_count.Goals.{then-largest-declared, else-largest-declared}}
use Rattle.t1_font.proofs.normalizing.largest_count.Goals as goal

pub sources-preserved : goal.sources-preserved
sources-preserved c =
    let fs = c.args.sources.now in
    let n = c.sources.largest in
    let f = get_or fs c.sources.source-index c.source-item.result in
    let declared : c.declared_count-declared.result ≡ declared_count f.shell.subrs =
    c.declared_count-declared.ensures ∙ ap (λ (f : FontValue). declared_count f.shell.subrs) c.source-item.is in
    let larger : c.if-largest-declared.largest ≡ max n c.declared_count-declared.result = elim c.if-largest-declared.branch [
      | then-largest-declared w ↦ bigger _ n c.declared_count-declared.result w.if-largest-declared.true w.largest-is
      | else-largest-declared w ↦ no_bigger _ n c.declared_count-declared.result w.if-largest-declared.false w.largest-is
    ] in
    ap (λ (m : ℕ). max m (largest_count (drop (c.sources.source-index + 1) fs))) (larger ∙ ap (max n) declared)
    ∙ (sym (count_step fs c.sources.source-index c.source-item.result n c.sources-test.true) ∙ c.sources.invariant)

pub returns : goal.returns
returns c = count_done c.args.sources.now c.sources.source-index c.sources.largest c.sources-test.false ∙ c.sources.invariant
