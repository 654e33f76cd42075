use Rattle.std.proofs.Common.{ap₂, ◌∙◌}
use Rattle.t1_font.specs.Joins.{join_parts}
use Rattle.t1_font.proofs.parts.joined_parts.Goals as goal

pub returns : goal.returns
returns c =
    (λ i. record {
      shell = c.first.inside.shell.now;
      encoding = c.in_ok-join_encoding.ensures i;
      subrs = c.in_ok-join_subrs.ensures i;
      glyphs = c.in_ok-join_glyphs.ensures i;
    })
    ∙ ap₂ join_parts c.first.view_is c.second.view_is
