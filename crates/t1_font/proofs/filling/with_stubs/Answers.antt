use Rattle.std.{proofs.Common.{◌≡◌, true, map, sym, ap, ◌∙◌, refl}, specs.{Ordering.{nat_cmp}, FinMap.{from_sorted, entries, keys, retain_keys}}}
use Rattle.t1_font.specs.{declared.lent.SparseArrayForm.{SparseArrayForm}, FontValue.{SparseArray}}
use Rattle.t1_font.specs.{Lent.{stub_at, filled_at, numbered_entries}, Normalizing.{stubs_at}, Filling.{has_each}, Maps.{merged}}
use Rattle.t1_font.proofs.{LentTables.{same_table}, FilledTables.{filled_is, sorted_stubs}, normal_fonts.Normalized.{stubs_below}, normal_fonts.Filled.{has_keys, all_below}}
use Rattle.t1_font.proofs.filling.with_stubs.Goals as goal

pub returns-then-are_among : goal.returns-then-are_among
returns-then-are_among c =
    let m = c.args.subrs.now in
    let indices = c.args.indices.now in
    let own : SparseArray = c.in-Stored.own in
    let is : own ≡ m =
    same_table own m (entries own) refl (ap (λ (f : SparseArrayForm). from_sorted {R = nat_cmp} (numbered_entries f)) (sym c.in-Stored.is) ∙ c.form.ensures) in
    let among : has_each (from_sorted {R = nat_cmp} (map stub_at indices)) (keys own) ≡ true =
    ap (λ (n : SparseArray). has_each (from_sorted {R = nat_cmp} (map stub_at indices)) (keys n)) is ∙ (sym c.are_among.ensures ∙ c.if-are_among.true) in
    let stubs : from_sorted {R = nat_cmp} (map stub_at indices) ≡ retain_keys (stubs_at indices) _ = sorted_stubs indices c.requires
    ∙ (sym (ap stubs_at (all_below c.args.declared indices (sym c.are_below.ensures ∙ c.if-are_below.true))) ∙ stubs_below c.args.declared indices) in
    c.filled.ensures
    ∙ (ap (λ (n : SparseArray). from_sorted {R = nat_cmp} (map (filled_at n) indices)) c.again.ensures
    ∙ (filled_is indices own c.requires (has_keys (from_sorted (map stub_at indices)) own among) ∙ λ i. merged (is i) (stubs i)))
