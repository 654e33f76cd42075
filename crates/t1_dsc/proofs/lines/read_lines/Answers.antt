use Rattle.std.proofs.{Common.{◌≡◌, ℕ, List, [], ◌∷◌, ◌++◌, length, map, sym, ap, refl, ◌∙◌, arith}, lemmas.{List.{map-append}}}
use Rattle.t1_document.specs.{Lines.{line_of}}
use Rattle.t1_dsc.{specs.{Structure.{role_in, open_past}, Views.{line_view}}}
use Rattle.t1_dsc.proofs.Reading.{reading_same, has_bytes, has_none, reading_first, reading_next, shorter, all_read, all_opened}
use Rattle.t1_dsc.proofs.lines.read_lines.Goals.{After-open_past-state}
use Rattle.t1_dsc.proofs.lines.read_lines.Goals as goal

pub lines-init : goal.lines-init
lines-init c = reading_first c.args.text.now (map line_view c.new-lines.result.items) (ap (map line_view) c.new-lines.ensures.items)

pub open_past-state-requires-clause-documents : goal.open_past-state-requires-clause-documents
open_past-state-requires-clause-documents c =
    omega (arith, c.lines.invariant.documents, has_bytes c.is_empty.result c.lines.rest.now c.is_empty.ensures c.lines-test.true)

pub open_past-state-requires-clause-raw : goal.open_past-state-requires-clause-raw
open_past-state-requires-clause-raw c =
    omega (arith, c.lines.invariant.raw, has_bytes c.is_empty.result c.lines.rest.now c.is_empty.ensures c.lines-test.true)

pub lines-smaller : goal.lines-smaller
lines-smaller c =
    let rest = c.lines.rest.now in
    let some = has_bytes c.is_empty.result rest c.is_empty.ensures c.lines-test.true in
    omega (arith, shorter rest some, ap (λ (x : List ℕ × List ℕ). length x.1) c.line_of.ensures)

pub lines-preserved : goal.lines-preserved
lines-preserved c =
    let text = c.args.text.now in
    let rest = c.lines.rest.now in
    let some = has_bytes c.is_empty.result rest c.is_empty.ensures c.lines-test.true in
    let was = map line_view c.lines.lines.items in
    let own : c.line_of.result.0.now ≡ (line_of rest).0 = ap (λ (x : List ℕ × List ℕ). x.0) c.line_of.ensures in
    let behind : c.line_of.result.1.now ≡ (line_of rest).1 = ap (λ (x : List ℕ × List ℕ). x.1) c.line_of.ensures in
    let role : c.role_in-role.result ≡ role_in c.lines.state (line_of rest).0 = c.role_in-role.ensures ∙ ap (role_in c.lines.state) own in
    let state : c.open_past-state.result ≡ open_past c.lines.state (line_of rest).0 = c.open_past-state.ensures ∙ ap (open_past c.lines.state) own in
    let pushed : map line_view c.push.new.self.items ≡ was ++ record { text = (line_of rest).0; role = role_in c.lines.state (line_of rest).0 } ∷ [] =
    ap (map line_view) c.in_ok-push.ensures.items ∙ (map-append line_view c.lines.lines.items (_ ∷ []) ∙ rw (own, role) refl) in
    reading_same text _ _ _ _ _ _ (sym pushed) (sym state) (sym behind) (reading_next text was c.lines.state rest some c.lines.invariant)

pub returns-clause-lines : goal.returns-clause-lines
returns-clause-lines c =
    all_read c.args.text.now (map line_view c.lines.lines.items) c.lines.state c.lines.rest.now
    (has_none c.is_empty.result c.lines.rest.now c.is_empty.ensures c.lines-test.false) c.lines.invariant

pub returns-clause-state : goal.returns-clause-state
returns-clause-state c =
    all_opened c.args.text.now (map line_view c.lines.lines.items) c.lines.state c.lines.rest.now
    (has_none c.is_empty.result c.lines.rest.now c.is_empty.ensures c.lines-test.false) c.lines.invariant
