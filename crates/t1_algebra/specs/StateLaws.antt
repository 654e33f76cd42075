-- The laws of joins of states.
use Rattle.std.{proofs.Common.{◌≤◌, ◌+◌, ℕ, ap, sym, ◌∙◌, subst, le_trans, arith}, specs.Cmp.Lexicographic.{nat_list_cmp_total}}
use Rattle.t1_join.specs.{Meaning.{Meaning}, Join.{JoinLaws, joined_state}, Products.{Same, BothAgree, AgreesByPairs, same_laws, both_laws, fitting_laws, same_by_pairs, both_by_pairs}}
use Rattle.t1_join.specs.{TableMeaning.{TableMeaning, TablesAgree, TablesJoin}, TableLaws.{table_laws, table_by_pairs, get_joined}}
use Rattle.t1_font.{specs.FontValue.{total}, proofs.MapLemmas.{total-le}}
use Rattle.t1_algebra.specs.StateTables.{StatesValue, name_part, subr_part, shared_weight, subr_adds, name_adds, name_counts, states_weight, StatesFit, PartsJoin, FontStatesAgree, FontStatesJoin}
use Rattle.t1_algebra.specs.Shared.{Shared}
use Rattle.std.specs.FinMap as maps

-- two values of states agree part by part
abbrev pub PartsAgree : StatesValue → StatesValue → Type 0
PartsAgree = BothAgree Same (BothAgree TablesAgree (BothAgree TablesAgree TablesAgree))

-- joins part by part keep the laws of joins
pub parts_laws : JoinLaws PartsAgree PartsJoin
parts_laws = both_laws same_laws (both_laws table_laws (both_laws table_laws table_laws))

-- what agrees with two values part by part agrees with their join
pub parts_by_pairs : AgreesByPairs PartsAgree PartsJoin
parts_by_pairs = both_by_pairs same_by_pairs (both_by_pairs table_by_pairs (both_by_pairs table_by_pairs table_by_pairs))

-- a joined table weighs no less than the first
grows : (w : Meaning → Meaning → ℕ) (a b c : TableMeaning) → TablesJoin a b c → total w (maps.entries a) ≤ total w (maps.entries c)
grows w a b c h =
    total-le nat_list_cmp_total (maps.slice_cmp-IsAntisymmetric maps.nat_cmp-IsAntisymmetric) w w a c
    (λ q v is. (v, ap (λ (t : TableMeaning). maps.get t q) h.1 ∙ get_joined a b q ∙ ap (λ s. joined_state s (maps.get b q)) is, omega arith))

lighter : (x y z : StatesValue) → PartsJoin x y z → states_weight x ≤ states_weight z
lighter x y z h = subst (λ (s : Shared). states_weight x
    ≤ shared_weight s + total subr_adds (maps.entries (subr_part z)) + total (name_adds s.0.len_iv) (maps.entries (name_part z))) (sym h.0.1)
    (omega (
      arith,
      grows subr_adds (subr_part x) (subr_part y) (subr_part z) h.1.1.1,
      grows (name_adds x.0.0.len_iv) (name_part x) (name_part y) (name_part z) h.1.1.0,
    ))

-- if a join is within the limits, so is what was joined
pub falls : (x y z : StatesValue) → PartsJoin x y z → StatesFit z → StatesFit x
falls x y z h w =
    record { weight = le_trans (lighter x y z h) w.weight; glyphs = le_trans (grows name_counts (name_part x) (name_part y) (name_part z) h.1.1.0) w.glyphs }

-- joins of states keep the laws of joins
pub states_laws : JoinLaws FontStatesAgree FontStatesJoin
states_laws = fitting_laws parts_laws StatesFit falls
