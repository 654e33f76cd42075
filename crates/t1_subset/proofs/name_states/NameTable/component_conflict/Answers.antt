use Rattle.std.{proofs.Common.{sym, subst}, specs.Cmp.Lexicographic.{nat_list_cmp_total}}
use Rattle.t1_font.specs.FontValue.{name_cmp}
use Rattle.t1_algebra.{specs.{Searches.{IsLowest}, NameStates.{lacks, one_lacks}}, proofs.Sets.{name_same}}
use Rattle.t1_subset.proofs.state_tables.LowestKeys.{lower_of}
use Rattle.std.specs.FinMap as maps
use Rattle.t1_subset.proofs.name_states.NameTable.component_conflict.Goals as goal

pub returns : goal.returns
returns c =
    let t = c.args.self.now in let u = c.args.other.now in
    subst (IsLowest name_cmp (λ n. one_lacks (maps.get t n) (maps.get u n))) (sym c.smaller.ensures)
    (lower_of nat_list_cmp_total name_same (λ n. lacks (maps.get t n) (maps.get u n))
    (λ n. lacks (maps.get u n) (maps.get t n)) _ _ c.lacked.ensures c.lacked-2.ensures)
