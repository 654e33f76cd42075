use Rattle.std.proofs.Common.{◌∙◌, ap, drop}
use Rattle.t1_font.specs.Gathering.{Entries, kept_by, gathered_subrs, gathered_glyphs}
use Rattle.t1_text.specs.Encoding.{Copy}
use Rattle.t1_font.proofs.gathered.Gathered.copy_codes.Goals as goal

pub returns : goal.returns
returns c =
    (λ i. record {
      rest = drop c.self.inside.at c.self.inside.buffer.items;
      codes = c.copy.ensures i;
      subrs = gathered_subrs c.self.inside.buffer.items c.self.inside.subrs.items;
      glyphs = gathered_glyphs c.self.inside.buffer.items c.self.inside.glyphs.items;
    })
    ∙ ap (λ (g : Entries). record {
      rest = g.rest;
      codes = kept_by g.codes (Copy c.args.from c.args.count c.args.to);
      subrs = g.subrs;
      glyphs = g.glyphs;
    }) c.self.view_is
