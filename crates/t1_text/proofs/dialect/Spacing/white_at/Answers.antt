use Rattle.std.proofs.Common.{◌≤◌, ◌∙◌, Some, length, take, drop, sym, ap, subst}
use Rattle.t1_grammar.specs.Scans.{taken_within}
use Rattle.t1_text.specs.Dialect.{Blank, spacing, white_and_comments}
use Rattle.t1_text.proofs.dialect.Spacing.white_at.Goals as goal

pub split_at-requires : goal.split_at-requires
split_at-requires c = subst (λ n. n ≤ length c.args.bytes.now) (sym c.spacing_len.ensures) (taken_within spacing Blank c.args.bytes.now)

pub returns-in-Comments : goal.returns-in-Comments
unfolding white_and_comments
returns-in-Comments c =
    let front = c.split_at.ensures.front ∙ ap (λ n. take n c.args.bytes.now) c.spacing_len.ensures in
    let back = c.split_at.ensures.back ∙ ap (λ n. drop n c.args.bytes.now) c.spacing_len.ensures in
    rw c.in-Comments.is (λ i. Some (front i, back i))
