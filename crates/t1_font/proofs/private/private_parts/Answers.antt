use Rattle.std.proofs.{Common.{◌≡◌, ◌∙◌, ap, arith, sym, refl, Bool, cond, ltb, Some, None, length, ℕ, List, [], ◌≤◌}, lemmas.Bool.{lt-ltb, le-ltb}}
use Rattle.t1_grammar.specs.Grammar.{first}
use Rattle.t1_font.specs.{Gathering.{Entries}, Reading.{Reading}}
use Rattle.t1_text.specs.{Markers.{chars_marker, subrs_marker}, declared.dialect.Spacing.TheVariants.{White}}
use Rattle.t1_font.specs.Pieces.{PrivatePieces, before_place, private_pieces, tables_from}
use Rattle.t1_font.proofs.{AnswersRight.{shown_same}, private.private_parts.Goals.{in-Some-first+else-private-front, in_default-first}}
use Rattle.t1_text.proofs.PlaceLemmas.{ending_read, no_longer}
use Rattle.t1_font.proofs.private.private_parts.Goals as goal

pub pass_to-requires : goal.pass_to-requires
pass_to-requires c = omega (arith, ap length c.rest-text.ensures, no_longer (first subrs_marker) c.rest-text.result.now _ (sym c.in-Some-first.ensures))

pub pass_to-requires-2 : goal.pass_to-requires-2
pass_to-requires-2 c = omega (arith, ap length c.rest-text.ensures, no_longer (first chars_marker) c.rest-text.result.now _ (sym c.in-Some.ensures))

chars_found : (text here : List ℕ) (front glyphs : List ℕ) → here ≡ text → Some ((front, tt), glyphs) ≡ (first chars_marker).read here →
    (first chars_marker).read text ≡ Some ((front, tt), glyphs)
chars_found text here front glyphs is e = ap (first chars_marker).read (sym is) ∙ sym e

pub returns-then-private-front-clause-shown : goal.returns-then-private-front-clause-shown
unfolding private_pieces tables_from
returns-then-private-front-clause-shown c =
    let text = c.args.gathered.now.rest in
    let place : (List ℕ × ℕ) × List ℕ = ((c.in-Some-first.private.now, c.in-Some-first.subrs.declared), c.in-Some-first.entries.now) in
    let chars = chars_found text c.rest-text.result.now c.in-Some.front.now c.in-Some.glyphs.now c.rest-text.ensures c.in-Some.ensures in
    let subrs : (first subrs_marker).read text ≡ Some place = ap (first subrs_marker).read (sym c.rest-text.ensures) ∙ sym c.in-Some-first.ensures in
    let rest : c.pass_to.new.self.rest ≡ c.in-Some-first.entries.now =
    ap (λ (g : Entries). g.rest) c.pass_to.ensures ∙ ending_read (first subrs_marker) text place subrs in
    let chosen : Bool → Reading PrivatePieces =
    λ b. tables_from c.args.spacing (length text) ((c.in-Some.front.now, tt), c.in-Some.glyphs.now) (cond b (Some place) None) in
    let begins : (private_pieces c.args.spacing text).read ≡ (chosen (ltb (length c.in-Some-first.private.now) (length c.in-Some.front.now))).read =
    rw (chars, subrs) refl in
    let lt = lt-ltb (length c.in-Some-first.private.now) (length c.in-Some.front.now) c.if-private-front.true in
    shown_same _ c.tables_with.result _
    (tables_from c.args.spacing (length c.rest-text.result.now) (([], tt), [])
    (Some ((c.in_ok-private.private.items, c.in-Some-first.subrs.declared), c.pass_to.new.self.rest))).read
    (begins ∙ (ap (λ b. (chosen b).read) lt
    ∙ (λ i. (tables_from c.args.spacing (length (sym c.rest-text.ensures i)) (([], tt), [])
    (Some ((sym c.in_ok-private.ensures.items i, c.in-Some-first.subrs.declared), sym rest i))).read)))
    c.tables_with.ensures.shown

-- a place that is not before so many bytes
none_at : (n : ℕ) (x : (List ℕ × ℕ) × List ℕ) → n ≤ length x.0.0 → before_place n (Some x) ≡ None
none_at n x le = rw (le-ltb (length x.0.0) n le) refl

-- no table of Subrs stands before the glyphs
none_before : (c : goal.After-tables_without) → before_place (length c.in-Some.front.now) ((first subrs_marker).read c.args.gathered.now.rest) ≡ None
none_before c =
    let n = length c.in-Some.front.now in
    ap (λ t. before_place n ((first subrs_marker).read t)) (sym c.rest-text.ensures)
    ∙ (elim c.match-first-2.branch [
      | in-Some-first+else-private-front w ↦ ap (before_place n) (sym w.in-Some-first.ensures)
          ∙ none_at n ((w.in-Some-first.private.now, w.in-Some-first.subrs.declared), w.in-Some-first.entries.now) w.if-private-front.false
      | in_default-first w ↦ ap (before_place n) (sym w.in_default-first.ensures)
    ])

pub returns-clause-shown : goal.returns-clause-shown
unfolding private_pieces tables_from
returns-clause-shown c =
    let found = chars_found c.args.gathered.now.rest c.rest-text.result.now c.in-Some.front.now c.in-Some.glyphs.now c.rest-text.ensures c.in-Some.ensures in
    let rest : c.pass_to-2.new.self.rest ≡ c.in-Some.glyphs.now =
    ap (λ (g : Entries). g.rest) c.pass_to-2.ensures ∙ ending_read (first chars_marker) c.args.gathered.now.rest _ found in
    shown_same _ c.tables_without.result _
    (tables_from White (length c.rest-text.result.now) ((c.in_ok-private-2.private.items, tt), c.pass_to-2.new.self.rest) None).read
    (rw found (ap (λ o. (tables_from c.args.spacing (length c.args.gathered.now.rest) ((c.in-Some.front.now, tt), c.in-Some.glyphs.now) o).read) (none_before c)
    ∙ (λ i. (tables_from White (length (sym c.rest-text.ensures i)) ((sym c.in_ok-private-2.ensures.items i, tt), sym rest i) None).read)))
    c.tables_without.ensures.shown
