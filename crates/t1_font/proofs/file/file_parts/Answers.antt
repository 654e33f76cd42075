use Rattle.std.proofs.{Common.{rules, ◌+◌, ◌≡◌, ◌≤◌, ◌∙◌, ap, arith, sym, drop, ℕ, List, Result, Ok, length}, lemmas.Bool.{le-leb}, lemmas.List.{drop-drop}}
use Rattle.t1_bytes.specs.{Cipher.{private_text}, Limits.{file_limit}}
use Rattle.t1_font.specs.{declared.fault.ReadFault.{ReadFault}, FontValue.{FontValue}, Pieces.{FlatPieces, flat_pieces}}
use Rattle.t1_text.specs.declared.dialect.Dialect.{Dialect}
use Rattle.t1_font.specs.ReadFont.{flat_reading, file_pieces, font_texts, font_file}
use Rattle.t1_font.proofs.AnswersRight.{answers_same}
use Rattle.t1_grammar.specs.Formats.{if_ok, if_ok_twice}
use Rattle.t1_font.proofs.file.file_parts.Goals as goal

-- the font of a file that is not too long, where it is cut
file_is : (d : Dialect) (file : List ℕ) (p : FlatPieces) → length file ≤ file_limit → (file_pieces file).read ≡ Ok p →
    (font_file d file).read ≡ (font_texts d p.clear (private_text p.cipher)).read
unfolding font_file
file_is d file p short cut =
    let texts : FlatPieces → Result FontValue ReadFault = λ parts. (font_texts d parts.clear (private_text parts.cipher)).read in
    rw (le-leb (length file) file_limit short) (if_ok_twice (flat_reading file).read (λ flat. (flat_pieces flat).read) texts ∙ ap (if_ok texts) cut)

pub returns : goal.returns
returns c =
    let h = c.in_ok-cut.ensures.parts in
    let from = c.in_ok-cut.cut.from in
    let buffer = c.open_private.new.buffer.items in
    let private : private_text h.0.cipher ≡ drop (from + 4) buffer =
    ap private_text (sym h.2.1) ∙ (ap (drop 4) (sym c.open_private.ensures.value) ∙ (drop-drop 4 from buffer ∙ ap (λ k. drop k buffer) (omega arith))) in
    answers_same c.text_parts.result _ (font_texts c.args.dialect c.as_slice.result.now (drop (from + 4) buffer)).read
    (file_is c.args.dialect c.args.file.items h.0 (search rules) h.1
    ∙ (λ i. (font_texts c.args.dialect (sym (c.as_slice.ensures.value ∙ h.2.0) i) (private i)).read))
    c.text_parts.ensures

pub text_parts-requires-clause-inside : goal.text_parts-requires-clause-inside
text_parts-requires-clause-inside c = omega (arith, c.in_ok-cut.ensures.lead, c.open_private.ensures.same)
