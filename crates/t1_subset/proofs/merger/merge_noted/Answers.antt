use Rattle.std.proofs.Common.{sym, subst, List}
use Rattle.t1_algebra.specs.Merges.{ComesTo}
use Rattle.t1_subset.specs.{References.{fonts_of, AreNoted}, declared.references.References.{References}}
use Rattle.t1_subset.proofs.{state_tables.Walks.{all_fonts}, state_tables.StateTrees.{comes_to_font, states_come}}
use Rattle.t1_subset.proofs.merger.merge_noted.Goals as goal

pub into_font-requires : goal.into_font-requires
into_font-requires c =
    let cs = c.as_slice.result.now in
    comes_to_font (fonts_of cs) (all_fonts cs (subst AreNoted (sym c.as_slice.ensures.value) c.requires.noted)) c.in-Ok.joined c.in-Ok.ensures.ok

pub returns-clause-ok : goal.returns-clause-ok
returns-clause-ok c =
    let j = c.in_ok-into_font.field-0 in
    subst (λ (cs : List References). ComesTo (fonts_of cs) j) c.as_slice.ensures.value
    (states_come (fonts_of c.as_slice.result.now) c.in-Ok.joined c.in-Ok.ensures.ok j c.in_ok-into_font.ensures)
