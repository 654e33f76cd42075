use Rattle.std.proofs.Common.{◌≡◌, ℕ, Bool, List, Option, length, drop, is_some, sym, ap, subst, ◌∙◌, arith}
use Rattle.t1_document.{specs.{declared.marks.Mark.{Mark}, Lines.{line_of}, Marks.{mark_of}, Stretches.{stretches}}, proofs.FrontLoop.{Passed, front_stops, front_more, front_ends}}
use Rattle.t1_document.proofs.stretches.unmarked_len.Goals as goal

the_line : (rest t : List ℕ) (line : List ℕ × List ℕ) → rest ≡ t → line ≡ line_of rest → line.0 ≡ (line_of t).0
the_line rest t line e h = ap (λ (x : List ℕ × List ℕ). x.0) (h ∙ ap line_of e)

the_test : (t line : List ℕ) (m : Option Mark) (b : Bool) → line ≡ (line_of t).0 → m ≡ mark_of line → b ≡ is_some m → is_some (mark_of (line_of t).0) ≡ b
the_test t line m b e h k = sym (k ∙ ap is_some (h ∙ ap mark_of e))

pub returns-then-is_some : goal.returns-then-is_some
returns-then-is_some c =
    let bytes = c.args.bytes.now in
    let t = drop c.lines.len bytes in
    let line = the_line c.split_at.result.1.now t (c.line_of.result.0.now, c.line_of.result.1.now) c.split_at.ensures.back c.line_of.ensures in
    let test = the_test t c.line_of.result.0.now c.mark_of.result c.is_some.result line c.mark_of.ensures c.is_some.ensures in
    front_stops bytes c.lines.len (length (stretches bytes).0) c.lines-test.true c.lines.invariant.before (test ∙ c.if-is_some.true)

passed : (c : goal.Else-is_some) → Passed c.args.bytes.now c.lines.len (length (stretches c.args.bytes.now).0) (length c.line_of.result.0.now)
passed c =
    let bytes = c.args.bytes.now in
    let t = drop c.lines.len bytes in
    let line = the_line c.split_at.result.1.now t (c.line_of.result.0.now, c.line_of.result.1.now) c.split_at.ensures.back c.line_of.ensures in
    let test = the_test t c.line_of.result.0.now c.mark_of.result c.is_some.result line c.mark_of.ensures c.is_some.ensures in
    subst (λ (l : List ℕ). Passed bytes c.lines.len (length (stretches bytes).0) (length l)) (sym line)
    (front_more bytes c.lines.len (length (stretches bytes).0) c.lines-test.true c.lines.invariant.before (test ∙ c.if-is_some.false))

pub lines-smaller : goal.lines-smaller
lines-smaller c = let p = passed c in omega (arith, p.some, p.within)

pub lines-preserved : goal.lines-preserved
lines-preserved c = record { within = (passed c).within; before = (passed c).before }

pub returns : goal.returns
returns c = front_ends c.args.bytes.now c.lines.len (length (stretches c.args.bytes.now).0) c.lines-test.false c.lines.invariant.before
