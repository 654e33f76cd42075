use Rattle.std.proofs.Common.{◌∙◌, ap, drop}
use Rattle.t1_font.specs.Gathering.{Entries, gathered_subrs, gathered_glyphs}
use Rattle.std.specs.FinMap as fin
use Rattle.t1_font.proofs.gathered.Gathered.keep_code.Goals as goal

pub returns : goal.returns
returns c =
    (λ i. record {
      rest = drop c.self.inside.at c.self.inside.buffer.items;
      codes = c.put.ensures i;
      subrs = gathered_subrs c.self.inside.buffer.items c.self.inside.subrs.items;
      glyphs = gathered_glyphs c.self.inside.buffer.items c.self.inside.glyphs.items;
    })
    ∙ ap (λ (g : Entries). record { rest = g.rest; codes = fin.insert g.codes c.args.code c.args.name.now; subrs = g.subrs; glyphs = g.glyphs }) c.self.view_is
