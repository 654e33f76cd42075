use Rattle.std.proofs.Common.{List, ℕ, sym, ◌∙◌, subst}
use Rattle.t1_text.specs.Steps.{piece_of}
use Rattle.t1_text.proofs.RewritingLemmas.{Walked, none_walked, walks_less, walks_on, all_walked, step_takes}
use Rattle.t1_text.proofs.rewriting.rewritten.Goals as goal

pub pieces-init : goal.pieces-init
pieces-init c = none_walked (piece_of c.args.step) c.args.text.now c.in_ok-new.new.items c.in_ok-new.ensures.items

pub pieces-smaller : goal.pieces-smaller
pieces-smaller c =
    let step = c.args.step in
    walks_less (piece_of step) (step_takes step) c.args.text.now c.pieces.new.items c.piece.result.0.now c.piece.result.1.now c.pieces.rest.now
    (sym c.is_empty.ensures ∙ c.pieces-test.true) c.piece.ensures

pub pieces-preserved : goal.pieces-preserved
pieces-preserved c =
    let step = c.args.step in
    subst (λ (out : List ℕ). Walked (piece_of step) c.args.text.now out c.piece.result.1.now) (sym c.in_ok-extend_from_slice.ensures.items)
    (walks_on (piece_of step) (step_takes step) c.args.text.now c.pieces.new.items c.piece.result.0.now c.piece.result.1.now c.pieces.rest.now
    (sym c.is_empty.ensures ∙ c.pieces-test.true) c.piece.ensures c.pieces.invariant)

pub returns : goal.returns
returns c =
    all_walked (piece_of c.args.step) c.args.text.now c.pieces.new.items c.pieces.rest.now (sym c.is_empty.ensures ∙ c.pieces-test.false) c.pieces.invariant
