use Rattle.std.proofs.Common.{[], sym, ap, ◌∙◌, refl, ◌≤◌, arith}
use Rattle.t1_grammar.specs.TableLaws.{front_nil}
use Rattle.t1_bytes.proofs.EexecLemmas.{marker_found, marker_absent}
use Rattle.t1_font.specs.{Faults.{behind}, Gathering.{Entries}}
use Rattle.t1_font.proofs.{HeldLemmas.{none_numbered}, Arrays.{name_more, name_missing, names_closed, names_unclosed}}
use Rattle.t1_text.specs.Encoding.{code_count, array_end}
use Rattle.t1_font.proofs.encoding.names_at.Goals as goal

pub names-init : goal.names-init
names-init c = (record { names = []; count = refl; held = c.requires ∙ none_numbered; read = sym (front_nil _) }, (refl, refl, refl))

pub names-preserved : goal.names-preserved
names-preserved c =
    let old = c.names.invariant.1 in
    let kept = c.keep_code.ensures in (
      name_more c.args.spacing c.args.bytes.now c.names.rest.now _ c.names.code c.names.invariant.0
          (c.in-Some.name.now, c.in-Some.after.now) _ (omega arith) (sym c.in-Some.ensures) (ap (λ (g : Entries). g.codes) kept),
      (ap (λ (g : Entries). g.rest) kept ∙ old.0, ap (λ (g : Entries). g.subrs) kept ∙ old.1, ap (λ (g : Entries). g.glyphs) kept ∙ old.2),
    )

pub returns-in_default-clause-shown : goal.returns-in_default-clause-shown
returns-in_default-clause-shown c = (
  c.names.rest.now,
  name_missing c.args.spacing c.args.bytes.now c.names.rest.now _ c.names.code c.names.invariant.0 (omega arith) (sym c.in_default.ensures),
  ap behind c.white_at.ensures,
)

pub returns-in_default-array_end_at-clause-shown : goal.returns-in_default-array_end_at-clause-shown
returns-in_default-array_end_at-clause-shown c =
    let all : code_count ≤ c.names.code = omega arith in (
      c.names.rest.now,
      names_unclosed c.args.spacing c.args.bytes.now c.names.rest.now _ c.names.code all c.names.invariant.0 (marker_absent
          ((array_end c.args.spacing).read c.names.rest.now) (sym c.in_default-array_end_at.ensures)),
      ap behind c.white_at-in_default-array_end_at.ensures,
    )

pub returns-clause-shown : goal.returns-clause-shown
returns-clause-shown c =
    let all : code_count ≤ c.names.code = omega arith in
    let s = c.names.invariant.0 in
    let end = marker_found ((array_end c.args.spacing).read c.names.rest.now) c.in-Some-array_end_at.after.now (sym c.in-Some-array_end_at.ensures) in (
      s.names,
      end.0,
      c.in-Some-array_end_at.after.now,
      names_closed c.args.spacing c.args.bytes.now c.names.rest.now _ c.names.code all s (end.0, c.in-Some-array_end_at.after.now) end.1,
      (s.held, refl),
    )
