use Rattle.std.proofs.Common.{◌≡◌, ◌∙◌, ap, arith, sym, Some, Ok, length}
use Rattle.t1_grammar.specs.Grammar.{first}
use Rattle.t1_font.specs.{Gathering.{Entries}, Pieces.{SubrsPieces, iv_of, tables_from, glyphs_from}}
use Rattle.t1_text.specs.Markers.{chars_marker}
use Rattle.t1_font.proofs.AnswersRight.{shown_same}
use Rattle.t1_text.proofs.PlaceLemmas.{ending_read, no_longer}
use Rattle.t1_font.proofs.private.tables_with.Goals as goal

pub pass_to-requires : goal.pass_to-requires
pass_to-requires c = omega (arith, ap length c.rest-between.ensures, no_longer (first chars_marker) c.rest-between.result.now _ (sym c.in-Some.ensures))

pub returns-clause-shown : goal.returns-clause-shown
unfolding tables_from
returns-clause-shown c =
    let h = c.in_ok-subrs.ensures.shown in
    let s : SubrsPieces = record { declared = c.args.declared; entries = h.0.0; closing = h.0.1 } in
    let iv : (iv_of c.args.private.items).read ≡ Ok c.in_ok-len_iv.len_iv =
    ap (λ t. (iv_of t).read) (sym c.as_slice.ensures.value) ∙ sym c.in_ok-len_iv.ensures in
    let here : (first chars_marker).read c.subrs_parts.new.gathered.rest ≡ Some ((c.in-Some.middle.now, tt), c.in-Some.glyphs.now) =
    ap (first chars_marker).read (sym c.rest-between.ensures) ∙ sym c.in-Some.ensures in
    let found : (first chars_marker).read h.0.2 ≡ Some ((c.in-Some.middle.now, tt), c.in-Some.glyphs.now) = ap (first chars_marker).read (sym h.2.2) ∙ here in
    let rest : c.pass_to.new.self.rest ≡ c.in-Some.glyphs.now =
    ap (λ (g : Entries). g.rest) c.pass_to.ensures ∙ ending_read (first chars_marker) c.subrs_parts.new.gathered.rest _ here in
    shown_same _ c.glyphs_from.result _
    (glyphs_from c.args.size c.args.private.items (Some s) c.in_ok-middle.middle.items c.in_ok-len_iv.len_iv c.pass_to.new.self.rest).read
    (rw (iv, h.1, found) (λ i.
    (glyphs_from c.args.size c.args.private.items (Some s) (sym c.in_ok-middle.ensures.items i) c.in_ok-len_iv.len_iv (sym rest i)).read))
    (c.glyphs_from.ensures.shown (Some s)
    (record { table = h.2.0; bodies = λ few. ap (λ (g : Entries). g.subrs) c.pass_to.ensures ∙ h.2.1 (omega (arith, few, h.2.0.declared)) }))
