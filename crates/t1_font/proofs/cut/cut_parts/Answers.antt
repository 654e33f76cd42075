use Rattle.std.{proofs.Common.{refl, sym}, specs.{Ordering.{nat_cmp}, BTreeSet.{contains}}}
use Rattle.t1_font.{specs.{FontModel.{encoding_of}, Cut.{set_of_names}}, proofs.CutLoops.{cut_font}}
use Rattle.std.specs.FinSet as sets
use Rattle.t1_font.proofs.cut.cut_parts.Goals as goal

pub returns : goal.returns
returns c =
    cut_font (sets.contains (set_of_names c.args.names.now)) (contains nat_cmp c.args.subrs.now) c.args.parts.now
    (record { shell = c.parts.inside.shell.now; encoding = encoding_of c.parts.inside.encoding; subrs = c.parts.inside.subrs; glyphs = c.parts.inside.glyphs })
    (record {
      shell = c.parts.inside.shell.now;
      encoding = encoding_of c.in_ok-cut_encoding.field-0;
      subrs = c.in_ok-cut_subrs.field-0;
      glyphs = c.in_ok-glyphs.glyphs;
    })
    (sym c.parts.view_is) c.requires refl c.in_ok-cut_encoding.ensures c.in_ok-cut_subrs.ensures c.in_ok-glyphs.ensures
