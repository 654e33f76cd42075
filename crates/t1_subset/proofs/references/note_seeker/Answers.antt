use Rattle.std.specs.FinMap as maps
use Rattle.std.{proofs.lemmas.Result.{on_ok_weaker}, specs.Cmp.Lexicographic.{nat_list_cmp_total}}
use Rattle.t1_algebra.proofs.Sets.{name_same, tied, cases}
use Rattle.t1_subset.proofs.references.note_seeker.Goals as goal

pub returns-then-has_glyph : goal.returns-then-has_glyph
returns-then-has_glyph c = λ q. grind (cases, c.if-has_glyph.ensures, tied nat_list_cmp_total name_same q c.args.component.now)

pub returns-in-Some : goal.returns-in-Some
returns-in-Some c = λ q. grind (cases, c.in-Some.ensures, tied nat_list_cmp_total name_same q c.args.component.now)

pub returns-in-None : goal.returns-in-None
returns-in-None c = λ q. on_ok_weaker c.insert.result (λ is.
    let there = maps.get-insert nat_list_cmp_total c.args.seekers.now c.args.component.now c.args.glyph.now q in
    grind (cases, is, there, c.in-None.ensures, c.if-has_glyph.ensures, tied nat_list_cmp_total name_same q c.args.component.now)) c.insert.ensures.ok
