use Rattle.std.specs.{Cmp.{nat_cmp_total}, FinSet.{slice_cmp-IsAntisymmetric, nat_cmp-IsAntisymmetric}, Cmp.Lexicographic.{nat_list_cmp_total}}
use Rattle.t1_text.proofs.MapLaws.{get-map_of, get-names_of}
use Rattle.t1_text.proofs.laws.last_stands.Goals as goal

pub returns : goal.returns
returns c = record {
  subrs = get-map_of nat_cmp_total nat_cmp-IsAntisymmetric;
  glyphs = get-map_of nat_list_cmp_total (slice_cmp-IsAntisymmetric nat_cmp-IsAntisymmetric);
  codes = get-names_of nat_cmp_total nat_cmp-IsAntisymmetric;
}
