-- The canonical text of a font, and the loop that reads fonts.
use Rattle.std.proofs.Common.{◌≡◌, ℕ, List, [], ◌∷◌, ◌++◌, sym, ap, ◌∙◌, append_assoc, Result, Ok, Err}
use Rattle.std.specs.Prelude.{codes}
use Rattle.t1_bytes.specs.{declared.form.Form.TheVariants.{Pfa}, Cipher.{private_cipher}, Texts.{hex_lines, zero_lines}}
use Rattle.t1_font.specs.{declared.fault.ReadFault.{ReadFault}, FontValue.{FontValue}, Canon.{canon_clear, canon_private, canon}}
use Rattle.t1_classes.specs.Joining.{font_text}

-- with the line end it is the font's PFA
pub font_text_is : (f : FontValue) → canon f Pfa ≡ font_text f ++ 10 ∷ []
font_text_is f = sym (append_assoc (canon_clear f) (hex_lines (private_cipher (canon_private f)) ++ (zero_lines 8 ++ codes "cleartomark")) (10 ∷ [])
    ∙ ap (λ (t : List ℕ). canon_clear f ++ t)
    (append_assoc (hex_lines (private_cipher (canon_private f))) (zero_lines 8 ++ codes "cleartomark") (10 ∷ [])
    ∙ ap (λ (t : List ℕ). hex_lines (private_cipher (canon_private f)) ++ t) (append_assoc (zero_lines 8) (codes "cleartomark") (10 ∷ []))))

-- fonts before those that are read, or why these are not
abbrev pub fonts_before : List FontValue → Result (List FontValue) ReadFault → Result (List FontValue) ReadFault
fonts_before fs (Ok gs) = Ok (fs ++ gs)
fonts_before fs (Err e) = Err e
