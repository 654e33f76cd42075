use Rattle.std.proofs.Common.{sym, ◌∙◌}
use Rattle.t1_document.{specs.Fonts.{spelled_name}, proofs.FontLemmas.{name_found, head_within, refused_name}}
use Rattle.t1_font.specs.ReadFont.{read_font_widely}
use Rattle.t1_document.proofs.fonts.spelled_head_len.Goals as goal

pub returns-in_ok-head_len-in-Ok-clause-name : goal.returns-in_ok-head_len-in-Ok-clause-name
returns-in_ok-head_len-in-Ok-clause-name c =
    name_found c.args.text.now c.in-Ok.source c.in_ok-head_len-in-Ok.field-0 c.requires.flat c.in-Ok.ensures.right c.in-Ok.ensures.exact
    c.in_ok-head_len-in-Ok.ensures

pub returns-in_ok-head_len-in-Ok-clause-within : goal.returns-in_ok-head_len-in-Ok-clause-within
returns-in_ok-head_len-in-Ok-clause-within c =
    head_within c.args.text.now c.in-Ok.source c.in_ok-head_len-in-Ok.field-0 c.requires.flat c.in-Ok.ensures.right c.in_ok-head_len-in-Ok.ensures

pub returns-else-is_memory-clause-name : goal.returns-else-is_memory-clause-name
unfolding spelled_name
returns-else-is_memory-clause-name c =
    sym (refused_name c.in-Err.fault (read_font_widely c.args.text.now) (sym c.is_memory.ensures ∙ c.if-is_memory.false) c.in-Err.ensures.exact)
