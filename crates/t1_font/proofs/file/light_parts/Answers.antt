use Rattle.std.proofs.Common.{arith}
use Rattle.t1_font.proofs.FromPieces.{glyphs_over, weight_over, font_is}
use Rattle.t1_font.proofs.file.light_parts.Goals as goal

pub returns-then-glyph_count-gt-COUNT_LIMIT : goal.returns-then-glyph_count-gt-COUNT_LIMIT
returns-then-glyph_count-gt-COUNT_LIMIT c = λ o p clear shows. glyphs_over o p c.args.inside c.args.gathered c.in_ok-parts.parts shows c.requires.notdef
    (c.in_ok-parts.ensures o p clear shows) (omega (arith, c.glyph_count.ensures, c.if-glyph_count-gt-COUNT_LIMIT.true))

pub returns-then-weight-gt-WEIGHT_LIMIT : goal.returns-then-weight-gt-WEIGHT_LIMIT
returns-then-weight-gt-WEIGHT_LIMIT c = λ o p clear shows. weight_over o p c.args.inside c.args.gathered c.in_ok-parts.parts _ shows c.requires.notdef
    (c.in_ok-parts.ensures o p clear shows) c.weight.ensures c.if-weight-gt-WEIGHT_LIMIT.true

pub returns : goal.returns
returns c = λ o p clear shows. font_is o p c.args.inside c.args.gathered c.in_ok-parts.parts _ shows c.requires.notdef c.requires.declared
    (omega (arith, c.glyph_count.ensures, c.if-glyph_count-gt-COUNT_LIMIT.false))
    (c.in_ok-parts.ensures o p clear shows) c.weight.ensures (omega (arith, c.if-weight-gt-WEIGHT_LIMIT.false))
