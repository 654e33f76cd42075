use Rattle.std.proofs.Common.{◌∙◌, ap, ◌++◌, ◌+◌, List, ℕ, arith, ◌≤◌}
use Rattle.t1_cmd.{specs.ListText.{line_at, code_line}, proofs.Walks.{codes_none, codes_more, codes_all, codes_under, nothing_more, line_more}}
use Rattle.t1_font.specs.FontModel.{name_at}
use Rattle.t1_cmd.proofs.list.push_codes.Goals as goal

pub codes-init : goal.codes-init
codes-init c = nothing_more c.args.out.now.items (codes_under c.args.font.now.encoding 0) (codes_none c.args.font.now.encoding)

pub codes-preserved : goal.codes-preserved
codes-preserved c =
    line_more c.args.out.now.items c.codes.out.items c.push_code.new.out.items (codes_under c.args.font.now.encoding c.codes.code)
    (line_at code_line c.codes.code (name_at c.args.font.now.encoding c.codes.code)) (codes_under c.args.font.now.encoding (c.codes.code + 1))
    c.codes.invariant c.in_ok-push_code.ensures (codes_more c.args.font.now.encoding c.codes.code)

pub returns : goal.returns
returns c =
    let all : 256 ≤ c.codes.code = omega arith in
    c.codes.invariant ∙ ap (λ (t : List ℕ). c.args.out.now.items ++ t)
    (codes_all c.args.font.now.encoding c.proof_is_font.ensures.encoding c.requires c.codes.code all)
