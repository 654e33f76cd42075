use Rattle.std.proofs.{Common.{◌∙◌, ℕ, List, ap, subst, length}, lemmas.Cmp.{nat_cmp_total, nat_list_cmp_total}}
use Rattle.std.specs.{Cmp.Lexicographic.{on_texts}, FinMap.{nat_cmp-IsAntisymmetric}, Ordering.{nat_cmp}}
use Rattle.t1_font.specs.{Answers.{encoding_view}, FontValue.{name_cmp}, Gathering.{Entries}, Ranges.{bytes_at, by_name, IsInside, AllInside, NamesInside}}
use Rattle.t1_text.specs.Entries.{AreLast}
use Rattle.t1_font.proofs.{Buffers.{all_longer, names_wider}, Lasts.{all_last, lasts_rise, lasts_map}, canonical.FontAgain.{name_same}}
use Rattle.t1_font.proofs.file.source_parts.Goals as goal

subrs_inside : (c : goal.In_ok-likely) → AllInside (length c.gathered.inside.buffer.items) c.gathered.inside.subrs.items
subrs_inside c =
    all_longer c.gathered.inside.at (length c.gathered.inside.buffer.items) c.gathered.inside.subrs.items c.gathered.invariant.at c.gathered.invariant.subrs

names_inside : (c : goal.In_ok-likely) → NamesInside (length c.gathered.inside.buffer.items) c.gathered.inside.glyphs.items
names_inside c =
    names_wider c.gathered.inside.at (length c.gathered.inside.buffer.items) c.gathered.inside.glyphs.items c.gathered.invariant.at c.gathered.invariant.names

glyphs_inside : (c : goal.In_ok-likely) → AllInside (length c.gathered.inside.buffer.items) c.gathered.inside.glyphs.items
glyphs_inside c =
    all_longer c.gathered.inside.at (length c.gathered.inside.buffer.items) c.gathered.inside.glyphs.items c.gathered.invariant.at c.gathered.invariant.glyphs

-- the glyphs that are kept
last_so : (c : goal.In_ok-likely) → AreLast (by_name c.gathered.inside.buffer.items) c.gathered.inside.glyphs.items c.in_ok-glyphs.glyphs.items
last_so c = subst (λ (b : List ℕ). AreLast (by_name b) c.gathered.inside.glyphs.items c.in_ok-glyphs.glyphs.items)
    c.as_slice.ensures.value c.in_ok-glyphs.ensures

pub invariant_of-result : goal.invariant_of-result
invariant_of-result c =
    let buffer = c.gathered.inside.buffer.items in
    let here = on_texts (bytes_at buffer) in
    record {
      subrs_inside = all_last nat_cmp_total
          (λ e. IsInside (length buffer) e.1) c.gathered.inside.subrs.items c.in_ok-subrs.subrs.items c.in_ok-subrs.ensures (subrs_inside c);
      names_inside = all_last here (λ e. IsInside (length buffer) e.0)
          c.gathered.inside.glyphs.items c.in_ok-glyphs.glyphs.items (last_so c) (names_inside c);
      glyphs_inside = all_last here (λ e. IsInside (length buffer) e.1)
          c.gathered.inside.glyphs.items c.in_ok-glyphs.glyphs.items (last_so c) (glyphs_inside c);
      codes_rise = c.in_ok-encoding.ensures.rise;
      subrs_rise = lasts_rise (λ k. k) (bytes_at buffer) nat_cmp nat_cmp_total nat_cmp-IsAntisymmetric
          c.gathered.inside.subrs.items c.in_ok-subrs.subrs.items c.in_ok-subrs.ensures;
      glyphs_rise = lasts_rise (bytes_at buffer) (bytes_at buffer) name_cmp nat_list_cmp_total name_same
          c.gathered.inside.glyphs.items c.in_ok-glyphs.glyphs.items (last_so c);
    }

pub returns : goal.returns
returns c = λ o p clear shows.
    let buffer = c.gathered.inside.buffer.items in
    let shell = c.in_ok-shell.ensures o p c.args.gathered clear shows in
    let encoding =
    c.in_ok-encoding.ensures.value ∙ (ap (λ (g : Entries). encoding_view c.args.outside.now.encoding g.codes) c.gathered.view_is ∙ clear.encoding) in
    let subrs =
    lasts_map (λ k. k) (bytes_at buffer) nat_cmp nat_cmp_total nat_cmp-IsAntisymmetric
    c.gathered.inside.subrs.items c.in_ok-subrs.subrs.items c.in_ok-subrs.ensures
    ∙ (ap (λ (g : Entries). g.subrs) c.gathered.view_is ∙ shows.subr_bodies c.requires) in
    let glyphs =
    lasts_map (bytes_at buffer) (bytes_at buffer) name_cmp nat_list_cmp_total name_same
    c.gathered.inside.glyphs.items c.in_ok-glyphs.glyphs.items (last_so c)
    ∙ (ap (λ (g : Entries). g.glyphs) c.gathered.view_is ∙ shows.glyph_bodies) in
    λ i. record { shell = shell i; encoding = encoding i; subrs = subrs i; glyphs = glyphs i }
