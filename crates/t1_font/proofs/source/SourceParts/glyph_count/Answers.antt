use Rattle.std.proofs.{Common.{ap, sym, ◌∙◌, map, length}, lemmas.List.{length-map}}
use Rattle.t1_font.specs.{FontValue.{FontValue, name_cmp}, Ranges.{named_at}}
use Rattle.std.specs.FinMap as fin
use Rattle.t1_font.proofs.source.SourceParts.glyph_count.Goals as goal

pub returns : goal.returns
returns c =
    let entries = map (named_at c.self.inside.buffer.items) c.self.inside.glyphs.items in
    c.len.ensures
    ∙ c.self.inside.glyphs.ok.0
    ∙ sym (length-map c.self.inside.glyphs.items (named_at c.self.inside.buffer.items))
    ∙ ap length (sym (fin.entries-from_sorted name_cmp entries c.self.invariant.glyphs_rise))
    ∙ sym (fin.len-entries (fin.from_sorted {R = name_cmp} entries))
    ∙ ap (λ (v : FontValue). fin.len v.glyphs) c.self.view_is
