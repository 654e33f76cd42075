use Rattle.std.proofs.Common.{sym, ◌∙◌, true≢false}
use Rattle.t1_algebra.{specs.NameStates.{charstrings_differ, one_lacks}, proofs.Tables.{names_agree, none_of, none_is}}
use Rattle.std.specs.FinMap as maps
use Rattle.t1_subset.proofs.name_states.NameTable.agrees.Goals as goal

pub returns-then-is_none : goal.returns-then-is_none
returns-then-is_none c =
    let t = c.args.self.now in let u = c.args.other.now in
    let exactly = names_agree t u c.proof_states.ensures c.proof_states-2.ensures in (
      λ h. exactly.1 (
        none_of (λ n. charstrings_differ (maps.get t n) (maps.get u n))
            c.glyph_conflict.result c.is_none.result c.is_none.ensures c.if-is_none.true c.glyph_conflict.ensures,
        none_of (λ n. one_lacks (maps.get t n) (maps.get u n))
            c.component_conflict.result c.is_none-then-is_none.result c.is_none-then-is_none.ensures h c.component_conflict.ensures,
      ),
      λ a. none_is (λ n. one_lacks (maps.get t n) (maps.get u n))
          c.component_conflict.result c.is_none-then-is_none.result c.is_none-then-is_none.ensures c.component_conflict.ensures (exactly.0 a).1,
    )

pub returns-else-is_none : goal.returns-else-is_none
returns-else-is_none c =
    let t = c.args.self.now in let u = c.args.other.now in (
      λ h. absurd (true≢false (sym h ∙ c.if-is_none.false)),
      λ a. none_is (λ n. charstrings_differ (maps.get t n) (maps.get u n)) c.glyph_conflict.result c.is_none.result c.is_none.ensures c.glyph_conflict.ensures
          ((names_agree t u c.proof_states.ensures c.proof_states-2.ensures).0 a).0,
    )
