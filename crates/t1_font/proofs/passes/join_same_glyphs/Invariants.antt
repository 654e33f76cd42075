use Rattle.std.{proofs.Common.{◌≡◌, ◌++◌, map}, specs.Str.{bytes_eq}}
use Rattle.t1_join.proofs.TablePasses.{ahead, meets, left}
use Rattle.t1_font.specs.{FontValue.{name_cmp}, Lent.{lent_glyph}, Maps.{merged}}
use Rattle.std.specs.FinMap as fin
use Rattle.t1_font.proofs.passes.join_same_glyphs.Given as goal

abbrev pub invariant-pass : goal.invariant-pass
invariant-pass l =
    (map lent_glyph l.all.items ++ ahead name_cmp (fin.entries l.first) (fin.entries l.second) l.i l.j ≡ fin.entries (merged l.first l.second))
    × (meets name_cmp (fin.entries l.first) (fin.entries l.second) bytes_eq l.i l.j ≡ meets name_cmp (fin.entries l.first) (fin.entries l.second) bytes_eq 0 0)

abbrev pub decreases-pass : goal.decreases-pass
decreases-pass l = left (fin.entries l.first) (fin.entries l.second) l.i l.j
