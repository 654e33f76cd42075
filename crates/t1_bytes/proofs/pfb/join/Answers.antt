use Rattle.std.proofs.{Common.{◌≡◌, ℕ, ◌+◌, ◌-◌, List, refl, sym, ap, subst, ◌∙◌, arith, length, drop, true, Ok}, lemmas.List.{length-drop}}
use Rattle.t1_bytes.{specs.{Segments.{segment, end, segment_eats}, FlatText.{starts_segment}}, proofs.SegmentMoves.{Joins, none_moved, joined_end, joined_bad, moved}}
use Rattle.t1_bytes.proofs.pfb.join.Goals as goal

pub segments-init : goal.segments-init
segments-init c = none_moved c.args.file.now.items

pub returns-in-Some-clause-exact : goal.returns-in-Some-clause-exact
returns-in-Some-clause-exact c =
    let now = c.segments.file.items in
    let rest : c.split_at.result.1.now ≡ drop c.segments.at now = c.split_at.ensures.back ∙ ap (drop c.segments.at) c.as_slice-in-segments.ensures.value in
    let starts : starts_segment c.args.file.now.items ≡ true =
    ap starts_segment (sym c.as_slice.ensures.value) ∙ (sym c.is_segmented.ensures ∙ c.if-not-is_segmented.false) in
    joined_end c.args.file.now.items now c.segments.len c.segments.at _ starts c.segments.invariant (ap end.read (sym rest) ∙ sym c.in-Some.ensures)
    ∙ ap (λ (u : List ℕ). Ok u) (sym c.truncate.ensures.items)

pub returns-in_default-segment_at-clause-exact : goal.returns-in_default-segment_at-clause-exact
returns-in_default-segment_at-clause-exact c =
    let now = c.segments.file.items in
    let rest : c.split_at.result.1.now ≡ drop c.segments.at now = c.split_at.ensures.back ∙ ap (drop c.segments.at) c.as_slice-in-segments.ensures.value in
    let starts : starts_segment c.args.file.now.items ≡ true =
    ap starts_segment (sym c.as_slice.ensures.value) ∙ (sym c.is_segmented.ensures ∙ c.if-not-is_segmented.false) in
    joined_bad c.args.file.now.items now c.segments.len c.segments.at starts c.segments.invariant (ap end.read (sym rest) ∙ sym c.in_default.ensures)
    (ap segment.read (sym rest) ∙ sym c.in_default-segment_at.ensures)

-- a turn
turn : (c : goal.After-copy_within) → Joins c.args.file.now.items c.copy_within.new.self.items
    (c.segments.len + length c.in-Some-segment_at.data.now) (c.len.result - length c.in-Some-segment_at.after.now)
turn c =
    let now = c.segments.file.items in
    let rest : c.split_at.result.1.now ≡ drop c.segments.at now = c.split_at.ensures.back ∙ ap (drop c.segments.at) c.as_slice-in-segments.ensures.value in
    let many : c.len.result ≡ length now = c.len.ensures ∙ (sym c.as_slice-in-segments.ensures.len ∙ ap length c.as_slice-in-segments.ensures.value) in
    subst (λ (b : List ℕ). Joins c.args.file.now.items b (c.segments.len + length c.in-Some-segment_at.data.now)
    (c.len.result - length c.in-Some-segment_at.after.now)) (sym c.copy_within.ensures.items)
    (moved c.args.file.now.items now c.segments.len c.segments.at (length c.in-Some-segment_at.data.now)
    (c.len.result - length c.in-Some-segment_at.after.now) (c.in-Some-segment_at.data.now, c.in-Some-segment_at.after.now)
    c.segments.invariant (ap end.read (sym rest) ∙ sym c.in_default.ensures)
    (ap segment.read (sym rest) ∙ sym c.in-Some-segment_at.ensures) refl (ap (λ (n : ℕ). n - length c.in-Some-segment_at.after.now) many))

pub segments-preserved : goal.segments-preserved
segments-preserved c = turn c

pub segments-smaller : goal.segments-smaller
segments-smaller c =
    let now = c.segments.file.items in
    let rest : c.split_at.result.1.now ≡ drop c.segments.at now = c.split_at.ensures.back ∙ ap (drop c.segments.at) c.as_slice-in-segments.ensures.value in
    let many : c.len.result ≡ length now = c.len.ensures ∙ (sym c.as_slice-in-segments.ensures.len ∙ ap length c.as_slice-in-segments.ensures.value) in
    let eaten = segment_eats (drop c.segments.at now) (c.in-Some-segment_at.data.now, c.in-Some-segment_at.after.now)
    (ap segment.read (sym rest) ∙ sym c.in-Some-segment_at.ensures) in
    omega (arith, eaten, many, length-drop c.segments.at now, (turn c).size, c.segments.invariant.size, c.segments.invariant.within)
