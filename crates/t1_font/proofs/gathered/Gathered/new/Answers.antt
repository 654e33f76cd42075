use Rattle.std.proofs.Common.{drop, sym, ◌∙◌}
use Rattle.t1_font.{specs.Gathering.{gathered_subrs, gathered_glyphs}, proofs.HeldLemmas.{none_numbered, none_named}}
use Rattle.std.specs.FinMap as fin
use Rattle.t1_font.proofs.gathered.Gathered.new.Goals as goal

pub returns : goal.returns
returns c =
    let buffer = c.args.buffer.items in
    (λ i. record {
      rest = drop c.args.at buffer;
      codes = c.none.ensures i;
      subrs = gathered_subrs buffer (c.new.ensures.items i);
      glyphs = gathered_glyphs buffer (c.new-2.ensures.items i);
    })
    ∙ (λ i. record { rest = drop c.args.at buffer; codes = fin.empty; subrs = sym none_numbered i; glyphs = sym none_named i })
