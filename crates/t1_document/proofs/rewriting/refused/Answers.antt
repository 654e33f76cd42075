use Rattle.std.proofs.Common.{Bool}
use Rattle.t1_document.specs.{Documents.{Place}, Rewriting.{is_barred}, Texts.{text_in}}
use Rattle.t1_document.proofs.{WriteLoop.{flags_same, flags_stay, flags_grow}, rewriting.refused.Goals.{then-branch+in_ok-put, else-branch}}
use Rattle.t1_document.proofs.rewriting.refused.Goals as goal

pub places-preserved : goal.places-preserved
places-preserved c =
    let test : Place → Bool = λ p. is_barred (text_in c.args.new.now p.name) p in
    let places = c.args.places.now in
    let i = c.places.place-index in
    elim c.if-branch.branch [
      | then-branch+in_ok-put w ↦ (
        flags_same test _ _ c.if-branch.refused w.refused-is
            (flags_grow test places i _ c.places-test.true c.places.refused w.put.new.self c.in_ok-is_barred.field-0 c.places.invariant.0
            c.in_ok-is_barred.ensures.barred w.if-branch.true w.in_ok-put.ensures.put),
        c.in_ok-is_barred.ensures.tried,
      )
      | else-branch w ↦ (
        flags_same test _ _ c.if-branch.refused w.refused-is
            (flags_stay test places i _ c.places-test.true c.places.refused c.in_ok-is_barred.field-0 c.places.invariant.0
            c.in_ok-is_barred.ensures.barred w.if-branch.false),
        c.in_ok-is_barred.ensures.tried,
      )
    ]
