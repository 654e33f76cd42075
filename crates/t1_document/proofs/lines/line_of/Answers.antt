use Rattle.std.{proofs.{Common.{◌≡◌, ℕ, ◌+◌, drop, refl, sym, ap, ◌∙◌}, lemmas.List.Folds.{length-prefix_len}}, specs.Prelude.{not}}
use Rattle.t1_document.{specs.Lines.{is_line_end, end_len, line_len}, proofs.LineLemmas.{body_len, line_len_is}}
use Rattle.t1_document.proofs.lines.line_of.Goals as goal

pub returns : goal.returns
returns c =
    let t = c.args.bytes.now in
    let body : c.body_len-body.result ≡ body_len t = c.body_len-body.ensures ∙ length-prefix_len (λ b. not (is_line_end b)) t in
    let end : c.end_len.result ≡ end_len (drop (body_len t) t) =
    c.end_len.ensures ∙ ap end_len (c.split_at.ensures.back ∙ ap (λ (n : ℕ). drop n t) body) in
    let whole : c.body_len-body.result + c.end_len.result ≡ line_len t = rw (body, end) (sym (line_len_is t)) in
    rw (c.split_at-2.ensures.front, c.split_at-2.ensures.back, whole) refl
