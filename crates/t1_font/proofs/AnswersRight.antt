-- What was answered, by the relations.
use Rattle.std.proofs.Common.{◌≡◌, ◌∙◌, sym, subst, ℕ, List, [], ◌∷◌, Result, Ok, Err, get_or, Fits, w8, suc}
use Rattle.t1_bytes.specs.Laws.{AreBytes}
use Rattle.t1_font.specs.declared.fault.ReadFault.{ReadFault}
use Rattle.t1_text.specs.declared.dialect.Dialect.{Dialect}
use Rattle.t1_font.specs.declared.fault.ReadFault.TheVariants.{TooLong, BadSegment, NoEexec, ShortCipher, NoEncoding, BadEncoding, NoCharStrings, BadLenIV, BadSubrs, BadGlyphs, Hybrid, NoClosefile}
use Rattle.t1_font.specs.{declared.fault.ReadFault.TheVariants.{NoNotdef, Limit, Memory}, ReadFont.{font_file}, Reasons.{RefusesIn}, Answers.{Refused, Shown, Answers}}
use Rattle.t1_font.proofs.Reasoned.{refuses}

-- the bytes of a slice are bytes
pub bytes_of_slice : (xs : List ℕ) → ((i : ℕ) → Fits w8 (get_or xs i 0)) → AreBytes xs
bytes_of_slice [] h = tt
bytes_of_slice (x ∷ xs) h = ((h 0).fits, bytes_of_slice xs (λ i. h (suc i)))

-- what shows one reading shows another that reads the same
pub shown_same : {X A : Type 0} (Shows : X → A → Type 0) (x : Result X ReadFault) (r s : Result A ReadFault) → r ≡ s → Shown Shows x s → Shown Shows x r
shown_same Shows (Ok x) r s same h = (h.0, same ∙ h.1, h.2)
shown_same Shows (Err e) r s same h = subst (Refused e) (sym same) h

-- what answers one reading answers another that reads the same
pub answers_same : {X : Type 0} (x : Result X ReadFault) (r s : Result X ReadFault) → r ≡ s → Answers (λ v. v) x s → Answers (λ v. v) x r
answers_same (Ok x) r s same h = same ∙ h
answers_same (Err e) r s same h = subst (Refused e) (sym same) h

-- a fault that reading gives is refused for its reason
pub fault_right : (d : Dialect) (file : List ℕ) (e : ReadFault) → Refused e (font_file d file).read → RefusesIn d file e
fault_right d file Memory h = tt
fault_right d file TooLong h = refuses d file TooLong h
fault_right d file (BadSegment at) h = refuses d file (BadSegment at) h
fault_right d file NoEexec h = refuses d file NoEexec h
fault_right d file ShortCipher h = refuses d file ShortCipher h
fault_right d file NoEncoding h = refuses d file NoEncoding h
fault_right d file (BadEncoding at) h = refuses d file (BadEncoding at) h
fault_right d file NoCharStrings h = refuses d file NoCharStrings h
fault_right d file BadLenIV h = refuses d file BadLenIV h
fault_right d file (BadSubrs at) h = refuses d file (BadSubrs at) h
fault_right d file (BadGlyphs at) h = refuses d file (BadGlyphs at) h
fault_right d file Hybrid h = refuses d file Hybrid h
fault_right d file NoClosefile h = refuses d file NoClosefile h
fault_right d file NoNotdef h = refuses d file NoNotdef h
fault_right d file Limit h = refuses d file Limit h
