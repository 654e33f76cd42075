use Rattle.std.proofs.Common.{rules, ◌≡◌, ℕ, List, ◌∷◌, map, sym, ap, subst}
use Rattle.t1_algebra.specs.Conflicts.{GlyphDiffers, glyph_clashes}
use Rattle.t1_subset.{specs.Refusals.{Adds}, proofs.{Telling.{adding_next, adding_ends, each_told}, state_tables.Sides.{glyphs_passing}}}
use Rattle.t1_subset.proofs.differences.add_glyphs.Goals as goal

pub names-preserved : goal.names-preserved
names-preserved c =
    let f = c.args.own.now in let g = c.args.other.now in
    let left : c.in-Some.name.now ∷ c.next.new.self ≡ c.names.name-iterator = search rules in
    adding_next (glyph_clashes f g) GlyphDiffers _ _ _ _ c.in-Some.name.now c.next.new.self c.names.name-iterator (sym left)
    c.names.invariant c.in_ok-add_glyph.ensures

pub returns : goal.returns
returns c =
    let f = c.args.own.now in let g = c.args.other.now in
    subst (Adds c.args.all.now.items c.names.all.items) (ap (map GlyphDiffers) (glyphs_passing f g)) (adding_ends _ _ _ _
    (ap (λ (ns : List (List ℕ)). each_told (glyph_clashes f g) GlyphDiffers ns) c.in-None.ensures.steps.0) c.names.invariant)
