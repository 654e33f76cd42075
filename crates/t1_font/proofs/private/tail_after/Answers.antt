use Rattle.std.{proofs.Common.{◌≡◌, ◌++◌, ◌∙◌, true, false, List, ℕ, Option, Some, None, Ok, Err, refl, sym, ap}, specs.Option.{option_map}}
use Rattle.t1_grammar.specs.{Grammar.{first}, Places.{occurs}}
use Rattle.t1_font.specs.{declared.fault.ReadFault.TheVariants.{Hybrid, NoClosefile}, Pieces.{tail_after, through}}
use Rattle.t1_text.specs.Markers.{subrs_marker, closefile}
use Rattle.t1_font.proofs.private.tail_after.Goals.{then-has_subrs-via-then-has_subrs, then-has_subrs-via-else-has_subrs+then-has_subrs-2, then-has_subrs-3-via-then-has_subrs-3}
use Rattle.t1_font.proofs.private.tail_after.Goals.{then-has_subrs-3-via-else-has_subrs-3+then-has_subrs-4}
use Rattle.t1_font.proofs.private.tail_after.Goals as goal

abbrev Found : Type 0
Found = Option ((List ℕ × List ℕ) × List ℕ)

-- no `closefile` is found
none_found : (o : Found) → None ≡ option_map (λ x. x.0.0 ++ x.0.1) o → o ≡ None
none_found None e = refl
none_found (Some x) e = absurd cc

-- the text ends with the one that is found
one_found : (text : List ℕ) (o : Found) → Some text ≡ option_map (λ x. x.0.0 ++ x.0.1) o →
    (x : (List ℕ × List ℕ) × List ℕ) × (o ≡ Some x) × (text ≡ x.0.0 ++ x.0.1)
one_found text None e = absurd cc
one_found text (Some x) e = (x, refl, cc)

module _ (middle rest : List ℕ) where
  in_middle : occurs subrs_marker middle ≡ true → (tail_after middle rest).read ≡ Err Hybrid
  unfolding tail_after
  in_middle m = rw m refl

  in_tail : (o : Found) → (first closefile).read rest ≡ o → occurs subrs_marker middle ≡ false → occurs subrs_marker (through o rest) ≡ true →
      (tail_after middle rest).read ≡ Err Hybrid
  unfolding tail_after
  in_tail o f m t = rw (m, f, t) refl

  unclosed : (first closefile).read rest ≡ None → occurs subrs_marker middle ≡ false → occurs subrs_marker rest ≡ false →
      (tail_after middle rest).read ≡ Err NoClosefile
  unfolding tail_after
  unclosed f m t = rw (m, f, t) refl

  closed : (x : (List ℕ × List ℕ) × List ℕ) → (first closefile).read rest ≡ Some x → occurs subrs_marker middle ≡ false →
      occurs subrs_marker (x.0.0 ++ x.0.1) ≡ false → (tail_after middle rest).read ≡ Ok (x.0.0 ++ x.0.1)
  unfolding tail_after
  closed x f m t = rw (m, f, t) refl

pub returns-then-has_subrs : goal.returns-then-has_subrs
returns-then-has_subrs c =
    let none = none_found ((first closefile).read c.args.rest.now) c.in_default.ensures in
    elim c.then-has_subrs.branch [
      | then-has_subrs-via-then-has_subrs w ↦ in_middle c.args.middle.now c.args.rest.now (sym w.if-has_subrs.ensures)
      | then-has_subrs-via-else-has_subrs+then-has_subrs-2 w ↦ in_tail c.args.middle.now c.args.rest.now None none
          (sym w.if-has_subrs.ensures) (sym w.if-has_subrs-2.ensures)
    ]

pub returns-in_default : goal.returns-in_default
returns-in_default c =
    unclosed c.args.middle.now c.args.rest.now (none_found ((first closefile).read c.args.rest.now) c.in_default.ensures)
    (sym c.if-has_subrs.ensures) (sym c.if-has_subrs-2.ensures)

pub returns-then-has_subrs-3 : goal.returns-then-has_subrs-3
returns-then-has_subrs-3 c =
    let x = one_found c.in-Some.tail.now ((first closefile).read c.args.rest.now) c.in-Some.ensures in
    elim c.then-has_subrs-3.branch [
      | then-has_subrs-3-via-then-has_subrs-3 w ↦ in_middle c.args.middle.now c.args.rest.now (sym w.if-has_subrs-3.ensures)
      | then-has_subrs-3-via-else-has_subrs-3+then-has_subrs-4 w ↦ in_tail c.args.middle.now c.args.rest.now
          (Some x.0) x.1 (sym w.if-has_subrs-3.ensures) (ap (occurs subrs_marker) (sym x.2) ∙ sym w.if-has_subrs-4.ensures)
    ]

pub returns : goal.returns
returns c =
    let x = one_found c.in-Some.tail.now ((first closefile).read c.args.rest.now) c.in-Some.ensures in
    closed c.args.middle.now c.args.rest.now x.0 x.1 (sym c.if-has_subrs-3.ensures) (ap (occurs subrs_marker) (sym x.2) ∙ sym c.if-has_subrs-4.ensures)
    ∙ ap (λ (t : List ℕ). Ok t) (sym x.2)
