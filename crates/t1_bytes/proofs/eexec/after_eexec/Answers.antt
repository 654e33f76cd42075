use Rattle.std.{proofs.Common.{sym, ap, ◌∙◌, arith}, specs.{Prelude.{codes}, Option.{option_map}}}
use Rattle.t1_bytes.{specs.Eexec.{eexec_marker}, proofs.{EexecLemmas.{eexec_begins, marker_found, marker_absent}, Places.{found_at, passed_at, nowhere_at}}}
use Rattle.t1_bytes.proofs.eexec.after_eexec.Goals as goal

pub returns-in-Some-eexec_marker_at : goal.returns-in-Some-eexec_marker_at
returns-in-Some-eexec_marker_at c =
    let found = marker_found (eexec_marker.read c.split_at.result.1.now) c.in-Some-eexec_marker_at.after.now (sym c.in-Some-eexec_marker_at.ensures) in
    ap (option_map (λ x. x.1))
    (found_at (codes "currentfile") eexec_marker eexec_begins c.args.flat.now c.places.from c.in-Some.place found.0 c.in-Some-eexec_marker_at.after.now
    (omega (arith, c.in-Some.ensures.within.1)) c.places.invariant.passed c.in-Some.ensures.first
    (ap eexec_marker.read (sym c.split_at.ensures.back) ∙ found.1))

pub places-preserved : goal.places-preserved
places-preserved c = record {
  within = omega (arith, c.in-Some.ensures.within.1);
  passed = passed_at (codes "currentfile") eexec_marker eexec_begins c.args.flat.now c.places.from c.in-Some.place
      (omega (arith, c.in-Some.ensures.within.1)) c.places.invariant.passed c.in-Some.ensures.first
      (ap eexec_marker.read (sym c.split_at.ensures.back) ∙ marker_absent _ (sym c.in_default-eexec_marker_at.ensures));
}

pub returns : goal.returns
returns c = ap (option_map (λ x. x.1))
    (nowhere_at (codes "currentfile") eexec_marker eexec_begins c.args.flat.now c.places.from c.places.invariant.passed c.in_default.ensures.first)
