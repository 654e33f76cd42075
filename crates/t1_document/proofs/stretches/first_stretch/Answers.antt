use Rattle.std.proofs.Common.{ℕ, take, drop, sym, ap, ◌∙◌}
use Rattle.t1_document.proofs.{StretchLemmas.{front_len}, FrontLoop.{First, stretch_first}}
use Rattle.t1_document.proofs.stretches.first_stretch.Goals as goal

pub split_at-requires : goal.split_at-requires
split_at-requires c = rw c.unmarked_len.ensures (front_len c.line_of.result.1.now)

pub returns : goal.returns
returns c =
    let rest = c.line_of.result.1.now in
    let f : First c.args.bytes.now c.line_of.result.0.now c.split_at.result.0.now c.split_at.result.1.now c.in_ok-mark.mark =
    stretch_first c.args.bytes.now c.line_of.result.0.now rest c.split_at.result.0.now c.split_at.result.1.now c.in_ok-mark.mark
    c.line_of.ensures (sym c.mark_of.ensures ∙ c.in_ok-mark.was)
    (c.split_at.ensures.front ∙ ap (λ (n : ℕ). take n rest) c.unmarked_len.ensures)
    (c.split_at.ensures.back ∙ ap (λ (n : ℕ). drop n rest) c.unmarked_len.ensures) in
    record { first = f.first; whole = f.whole; behind = f.none; shorter = f.shorter }
