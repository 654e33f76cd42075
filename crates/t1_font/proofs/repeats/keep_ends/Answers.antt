use Rattle.std.proofs.Common.{ap, ◌∙◌, ◌<◌, drop, length, arith}
use Rattle.t1_font.proofs.{Lasts.{end_passed, end_moved, ends_moved}, repeats.keep_ends.Goals.{in-Some, in_default}}
use Rattle.t1_text.specs.Entries.{run_end}
use Rattle.t1_font.proofs.repeats.keep_ends.Goals as goal

there : (g : _) (c : goal.Joined-end_at g) → c.entries.at < length c.args.entries.now.items
there g c = omega (arith, c.entries-test.true, c.len-at-end.ensures, c.args.entries.now.ok.0)

pub entries-preserved : goal.entries-preserved
entries-preserved g c =
    let order = g.O.KeyOrder.by c.args.order in
    let were = c.args.entries.now.items in
    let slice = ap (λ es. run_end order (drop c.entries.at es)) c.as_slice.ensures.value in
    elim c.match-end_at.branch [
      | in-Some w ↦ rw (w.entries-is, w.kept-is)
          (end_moved order were c.entries.entries.items c.entries.at c.entries.kept c.entries.invariant (there g c) w.in-Some.entry (w.in-Some.ensures ∙ slice))
      | in_default w ↦ rw (w.entries-is, w.kept-is)
          (end_passed order were c.entries.entries.items c.entries.at c.entries.kept c.entries.invariant (there g c) (w.in_default.ensures ∙ slice))
    ]

pub returns : goal.returns
returns g c =
    c.truncate.ensures.items
    ∙ ends_moved (g.O.KeyOrder.by c.args.order) c.args.entries.now.items c.entries.entries.items c.entries.at c.entries.kept c.entries.invariant
    (omega (arith, c.entries-test.false, c.len-at-end.ensures, c.args.entries.now.ok.0))
