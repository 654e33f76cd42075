use Rattle.std.proofs.Common.{sym, ◌∙◌, refl, true, false, true≢false}
use Rattle.t1_algebra.{specs.NameStates.{one_lacks}, proofs.Tables.{names_agree, none_of, none_is, not_passed, passed, are_joined}}
use Rattle.std.specs.FinMap as maps
use Rattle.t1_subset.proofs.name_states.NameTable.join_if_agreed.Goals as goal

pub returns-then-is_some : goal.returns-then-is_some
returns-then-is_some c k =
    true≢false (sym (none_is _ c.component_conflict.result false (sym c.is_some.ensures ∙ c.if-is_some.true) c.component_conflict.ensures
    ((names_agree _ _ c.proof_states.ensures c.proof_states-2.ensures).0 k).1))

pub returns-in_default : goal.returns-in_default
returns-in_default c = not_passed c.self.inside.glyphs c.self.inside.sought c.self.invariant _ c.self.view_is c.other.inside.glyphs
    c.other.inside.sought c.other.invariant _ c.other.view_is c.in_ok-glyphs.field-0 c.in_default.is c.in_ok-glyphs.ensures

pub invariant_of-result : goal.invariant_of-result
invariant_of-result c = are_joined c.self.inside.glyphs c.self.inside.sought c.self.invariant _ c.self.view_is
    c.other.inside.glyphs c.other.inside.sought c.other.invariant _ c.other.view_is c.in_ok-sought.sought c.in_ok-sought.ensures.1

pub returns : goal.returns
returns c =
    let t = c.args.self.now in let u = c.args.other.now in
    passed c.self.inside.glyphs c.self.inside.sought c.self.invariant t c.self.view_is c.other.inside.glyphs c.other.inside.sought
    c.other.invariant u c.other.view_is c.in_ok-glyphs.field-0 c.in-Some.glyphs c.in-Some.is c.in_ok-glyphs.ensures
    (none_of (λ n. one_lacks (maps.get t n) (maps.get u n)) c.component_conflict.result true
    (sym c.is_some.ensures ∙ c.if-is_some.false) refl c.component_conflict.ensures) c.in_ok-sought.sought c.in_ok-sought.ensures.1
