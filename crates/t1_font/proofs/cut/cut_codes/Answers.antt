use Rattle.std.proofs.{Common.{◌++◌, [], unwrap_or, ap, sym, ◌∙◌, map}, lemmas.Map.Iter.{rest_all}}
use Rattle.std.specs.{Prelude.{filter}, Cmp.{nat_cmp_total}, FinMap.{get, contains_key, retain_keys, nat_cmp-IsAntisymmetric}}
use Rattle.t1_join.proofs.{Sorted.{rises_of, map_of}, TablePasses.{all_out}}
use Rattle.t1_font.{specs.Lent.{lent_number}, proofs.CutEntries.{entries-retain_values}}
use Rattle.t1_font.proofs.cut.cut_codes.Goals as goal

pub codes-init : goal.codes-init
codes-init c =
    (λ k. map lent_number (c.new-cut.ensures.items k) ++ filter (λ e. contains_key c.args.glyphs.now e.1)
    ((c.into_iter-code-iterator.ensures.into_iter_gives ∙ c.entries-code-items.ensures) k))
    ∙ sym (entries-retain_values nat_cmp_total nat_cmp-IsAntisymmetric c.args.codes.now (contains_key c.args.glyphs.now) [])

pub made-requires : goal.made-requires
made-requires c =
    rises_of _ (retain_keys c.args.codes.now (λ k. contains_key c.args.glyphs.now (unwrap_or (get c.args.codes.now k) [])))
    (all_out lent_number c.codes.cut.items _ _
    (ap (filter (λ e. contains_key c.args.glyphs.now e.1)) (rest_all lent_number _ _ _ c.in-None.is c.next.ensures.steps)) c.codes.invariant)

pub returns : goal.returns
returns c =
    c.made.ensures ∙ map_of _ (retain_keys c.args.codes.now (λ k. contains_key c.args.glyphs.now (unwrap_or (get c.args.codes.now k) [])))
    (all_out lent_number c.codes.cut.items _ _
    (ap (filter (λ e. contains_key c.args.glyphs.now e.1)) (rest_all lent_number _ _ _ c.in-None.is c.next.ensures.steps)) c.codes.invariant)
