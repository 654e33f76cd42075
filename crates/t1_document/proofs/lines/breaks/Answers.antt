use Rattle.std.{proofs.Common.{◌≡◌, ℕ, List, Bool, true, false, sym, ap, ◌∙◌}, specs.Prelude.{◌||◌}}
use Rattle.t1_document.{specs.Lines.{no_bytes, line_closes, breaks}, proofs.LineLemmas.{breaks_behind, nil_is}}
use Rattle.t1_document.proofs.lines.breaks.Goals as goal

pub returns-then-is_empty : goal.returns-then-is_empty
returns-then-is_empty c =
    let nil : no_bytes c.args.behind.now ≡ true = sym (nil_is c.args.behind.now) ∙ (sym c.is_empty.ensures ∙ c.if-is_empty.true) in
    c.if-is_empty.true
    ∙ sym (ap (λ (t : List ℕ). breaks t c.args.behind.now) c.in-Some.ensures.cases.0
    ∙ (breaks_behind c.in-Some.field-0-1.now c.in-Some.byte.now c.args.behind.now
    ∙ ap (λ (b : Bool). b || line_closes c.in-Some.byte.now c.args.behind.now) nil))

pub returns-else-is_empty : goal.returns-else-is_empty
returns-else-is_empty c =
    let nil : no_bytes c.args.behind.now ≡ false = sym (nil_is c.args.behind.now) ∙ (sym c.is_empty.ensures ∙ c.if-is_empty.false) in
    c.closes.ensures
    ∙ sym (ap (λ (t : List ℕ). breaks t c.args.behind.now) c.in-Some.ensures.cases.0
    ∙ (breaks_behind c.in-Some.field-0-1.now c.in-Some.byte.now c.args.behind.now
    ∙ ap (λ (b : Bool). b || line_closes c.in-Some.byte.now c.args.behind.now) nil))
