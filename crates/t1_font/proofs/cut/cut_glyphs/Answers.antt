use Rattle.std.{proofs.{Common.{ap, sym, subst, ◌∙◌, map}, lemmas.List.{drop_all}}, specs.{Cmp.Lexicographic.{nat_list_cmp_total}, FinMap.{from_sorted}}}
use Rattle.t1_join.specs.TableMeaning.{Rises}
use Rattle.t1_font.specs.{FontValue.{name_cmp}, Lent.{lent_glyph, AreOwn, glyph_names}, Maps.{put_all_into}}
use Rattle.t1_font.proofs.{CutLoops.{entries_of, put_some}, LentTables.{no_glyphs, glyphs_rise, glyphs_sorted}, canonical.FontAgain.{name_same}}
use Rattle.t1_font.proofs.cut.cut_glyphs.Goals as goal

pub names-init : goal.names-init
names-init c = record {
  own = subst AreOwn (sym c.new-cut.ensures.empty) tt;
  left =
      ap (λ m. put_all_into m (entries_of c.args.glyphs.now (map (λ v. v.items) c.args.names.now))) (ap glyph_names c.new-cut.ensures.empty ∙ no_glyphs)
      ∙ put_some nat_list_cmp_total name_same c.args.glyphs.now (map (λ v. v.items) c.args.names.now);
}

pub made-requires : goal.made-requires
made-requires c = subst (λ gs. Rises name_cmp (map lent_glyph gs)) (sym c.in_ok-drain.ensures.items)
    (glyphs_rise c.names.cut.entries c.names.invariant.own c.in_ok-drain.ensures.ordered)

pub returns : goal.returns
returns c =
    c.made.ensures
    ∙ ap (λ gs. from_sorted {R = name_cmp} (map lent_glyph gs)) c.in_ok-drain.ensures.items
    ∙ (glyphs_sorted c.names.cut.entries c.names.invariant.own c.in_ok-drain.ensures.ordered
    ∙ (ap (λ ns. put_all_into (glyph_names c.names.cut.entries) (entries_of c.args.glyphs.now (map (λ v. v.items) ns)))
    (sym (drop_all c.names.name-index c.args.names.now c.names-test.false))
    ∙ c.names.invariant.left))
