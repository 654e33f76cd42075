use Rattle.std.proofs.Common.{◌≡◌, drop, map}
use Rattle.t1_font.{specs.{Maps.{put_all_into}, Cut.{set_of_names}, Lent.{AreOwn, glyph_names}}, proofs.CutLoops.{entries_of}}
use Rattle.std.specs.FinMap as fin
use Rattle.std.specs.FinSet as sets
use Rattle.t1_font.proofs.cut.cut_glyphs.Given as goal

abbrev pub invariant-names : goal.invariant-names
invariant-names l = record {
  own : AreOwn l.cut.entries;
  left : put_all_into (glyph_names l.cut.entries) (entries_of l.fn.glyphs (map (λ v. v.items) (drop l.name-index l.fn.names)))
      ≡ fin.retain_keys l.fn.glyphs (sets.contains (set_of_names l.fn.names));
}
