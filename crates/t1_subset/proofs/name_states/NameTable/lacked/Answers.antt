use Rattle.std.{proofs.Common.{◌≡◌, refl, sym, ◌∙◌}, specs.{Cmp.{first_so, second_so}, Cmp.Lexicographic.{nat_list_cmp_total}}}
use Rattle.t1_font.proofs.MapLemmas.{entries_all}
use Rattle.t1_algebra.{specs.NameStates.{lacks, lacks_in}, proofs.{Sets.{name_same}, Tables.{seeks_in}}}
use Rattle.t1_subset.proofs.state_tables.LowestKeys.{lowest_entry}
use Rattle.std.specs.FinMap as maps
use Rattle.t1_subset.proofs.name_states.NameTable.lacked.Goals as goal

pub returns : goal.returns
returns c =
    let t = c.args.self.now in let u = c.args.other.now in let s = c.self.inside.sought in
    lowest_entry nat_list_cmp_total name_same (λ n. lacks (maps.get t n) (maps.get u n)) s
    (λ n h. second_so _ (maps.contains_key s n) (sym (seeks_in c.self.inside.glyphs s c.self.invariant t c.self.view_is n) ∙ first_so _ _ h))
    (lacks_in t u) (entries_all nat_list_cmp_total name_same (λ n v. lacks_in t u (n, v) ≡ lacks (maps.get t n) (maps.get u n)) s (λ n v is. refl))
    _ c.first_lacked.ensures
