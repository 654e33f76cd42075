use Rattle.std.{proofs.Common.{◌≡◌, Option, sym, subst}, specs.Prelude.{MatchOption}}
use Rattle.t1_font.specs.{FontValue.{FontValue}, FontBoxes.{with_texts}, IsFont.{IsFont}}
use Rattle.t1_text.specs.FontTest.{untested}
use Rattle.t1_font.proofs.UntestedFonts.{untested_is_font}
use Rattle.t1_font.proofs.source.Source.untested.Goals as goal

pub with_head-requires : goal.with_head-requires
with_head-requires c =
    let f : FontValue = c.self.inside.parts in
    let head = f.shell.head in
    let is : f ≡ c.args.self = c.self.view_is in
    let made : c.in-Some.head.items ≡ untested head =
    subst (λ (o : Option _). MatchOption o (untested head ≡ head) (λ v. v.items ≡ untested head)) c.in-Some.is c.in-Ok.ensures in
    subst IsFont (λ i. with_texts (is i) (sym made i, (is i).shell.clear_tail)) (untested_is_font f c.self.invariant).0
