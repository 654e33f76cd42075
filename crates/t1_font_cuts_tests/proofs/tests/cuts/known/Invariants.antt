use Rattle.std.proofs.Common.{◌≡◌, ℕ, true, List}
use Rattle.t1_font.specs.{FontValue.{notdef}, Cut.{set_of_names}}
use Rattle.std.specs.FinMap as fin
use Rattle.std.specs.FinSet as sets
use Rattle.t1_font_cuts_tests.proofs.tests.cuts.known.Given as goal

abbrev pub invariant-names : goal.invariant-names
invariant-names l = record {
  known : (n : List ℕ) → sets.contains (set_of_names l.known.items) n ≡ true → fin.contains_key l.font.glyphs n ≡ true;
  notdef : sets.contains (set_of_names l.known.items) notdef ≡ true;
}
