-- The font Tiny, and the texts of its files.
use Rattle.std.specs.{Prelude.{ℕ, List, [], ◌∷◌, ◌++◌, Some, codes}, FinMap.{from_sorted}}
use Rattle.t1_bytes.specs.Cipher.{sealed}
use Rattle.t1_font.specs.FontValue.{FontValue, Shell, Codes}

-- lines of text, each with its end
abbrev pub lines : List (List ℕ) → List ℕ
lines [] = []
lines (l ∷ ls) = l ++ (10 ∷ lines ls)

-- ---- the kept texts

abbrev pub head : List ℕ
head = lines (codes "%!FontType1-1.0: Tiny 001.001" ∷ codes "11 dict begin" ∷ codes "/FontName /Tiny def"
    ∷ codes "/FontType 1 def" ∷ codes "/PaintType 0 def" ∷ codes "/FontMatrix [0.001 0 0 0.001 0 0] def" ∷ [])

abbrev pub clear_tail : List ℕ
clear_tail = 10 ∷ (lines (codes "/FontBBox {0 0 500 700} def" ∷ codes "currentdict end" ∷ []) ++ codes "currentfile eexec")

abbrev pub private_lines : List (List ℕ)
private_lines =
    codes "dup /Private 9 dict dup begin" ∷ codes "/RD {string currentfile exch readstring pop} executeonly def"
    ∷ codes "/ND {noaccess def} executeonly def" ∷ codes "/NP {noaccess put} executeonly def"
    ∷ codes "/BlueValues [] def" ∷ codes "/MinFeature {16 16} def" ∷ codes "/password 5839 def" ∷ codes "/OtherSubrs [{} {} {} {}] def" ∷ []

abbrev pub tail : List ℕ
tail = 10 ∷ (lines (codes "end" ∷ codes "readonly put" ∷ codes "noaccess put" ∷ codes "dup /FontName get exch definefont pop" ∷ [])
    ++ codes "mark currentfile closefile")

abbrev pub shell : Shell
shell = record {
  head = head;
  clear_tail = clear_tail;
  private = lines private_lines;
  middle = 10 ∷ codes "2 index ";
  tail = tail;
  len_iv = 4;
  subrs = Some (record { declared = 10; rd = codes "RD"; put = codes "NP"; closing = codes "ND" });
  glyphs_rd = codes "RD";
  glyphs_def = codes "ND";
}

-- ---- the tables

abbrev pub puts : List (ℕ × List ℕ)
puts = (65, codes "X") ∷ (66, codes "Y") ∷ (194, codes "H") ∷ []

abbrev pub subrs : List (ℕ × List ℕ)
subrs =
    (0, 0x8E ∷ 0x8B ∷ 0x0C ∷ 0x10 ∷ 0x0C ∷ 0x11 ∷ 0x0C ∷ 0x11 ∷ 0x0C ∷ 0x21 ∷ 0x0B ∷ [])
    ∷ (1, 0x8B ∷ 0x8C ∷ 0x0C ∷ 0x10 ∷ 0x0B ∷ [])
    ∷ (2, 0x8B ∷ 0x8D ∷ 0x0C ∷ 0x10 ∷ 0x0B ∷ [])
    ∷ (3, 0x0B ∷ [])
    ∷ (4, 0x8C ∷ 0x8E ∷ 0x0C ∷ 0x10 ∷ 0x0C ∷ 0x11 ∷ 0x0A ∷ 0x0B ∷ [])
    ∷ (5, 0xEF ∷ 0x06 ∷ 0x0B ∷ [])
    ∷ (6, 0x27 ∷ 0x06 ∷ 0x0B ∷ [])
    ∷ (7, 0xEF ∷ 0x9F ∷ 0x01 ∷ 0x0B ∷ [])
    ∷ (8, [])
    ∷ (9, 0x94 ∷ 0x0A ∷ 0x0B ∷ [])
    ∷ []

-- `50 230 210 65 203 seac`, but for its base: the glyphs Aacute, B and N
abbrev pub composed : ℕ → List ℕ
composed base = 0x8B ∷ 0xF8 ∷ 0x88 ∷ 0x0D ∷ 0xBD ∷ 0xF7 ∷ 0x0C ∷ 0xF7 ∷ 0x5C ∷ base ∷ 0xF7 ∷ 0x56 ∷ 0x0C ∷ 0x06 ∷ []

-- `0 250 hsbw endchar`
abbrev pub glyph_notdef : List ℕ
glyph_notdef = 0x8B ∷ 0xF7 ∷ 0x8E ∷ 0x0D ∷ 0x0E ∷ []

-- `50 300 hsbw 0 hmoveto 5 callsubr 700 vlineto -100 hlineto closepath endchar`
abbrev pub glyph_X : List ℕ
glyph_X = 0xBD ∷ 0xF7 ∷ 0xC0 ∷ 0x0D ∷ 0x8B ∷ 0x16 ∷ 0x90 ∷ 0x0A ∷ 0xF9 ∷ 0x50 ∷ 0x07 ∷ 0x27 ∷ 0x06 ∷ 0x09 ∷ 0x0E ∷ []

abbrev pub glyph_Y : List ℕ
glyph_Y = 0x8B ∷ 0xF8 ∷ 0x88 ∷ 0x0D ∷ 0x8B ∷ 0x16 ∷ 0x90 ∷ 0x0A ∷ 0x91 ∷ 0x0A ∷ 0x09 ∷ 0x0E ∷ []

abbrev pub glyphs : List (List ℕ × List ℕ)
glyphs =
    (codes ".notdef", glyph_notdef)
    ∷ (codes "A", 0x8B ∷ 0xF8 ∷ 0x88 ∷ 0x0D ∷ 0x8B ∷ 0x16 ∷ 0x91 ∷ 0x0A ∷ 0x09 ∷ 0x0E ∷ [])
    ∷ (codes "Aacute", composed 0xCC)
    ∷ (codes "B", composed 0xCC)
    ∷ (
      codes "F",
      0x8B ∷ 0xF8 ∷ 0x88 ∷ 0x0D ∷ 0xEF ∷ 0x16 ∷ 0x8C ∷ 0x0A ∷ 0xBD ∷ 0x16 ∷ 0x8D ∷ 0x0A ∷ 0x63 ∷ 0x16 ∷ 0x8D
          ∷ 0x0A ∷ 0x9F ∷ 0x90 ∷ 0x15 ∷ 0x8D ∷ 0x0A ∷ 0x9F ∷ 0x16 ∷ 0x8D ∷ 0x0A ∷ 0x9F ∷ 0x16 ∷ 0x8D ∷ 0x0A ∷ 0x9F ∷ 0x86
          ∷ 0x15 ∷ 0x8D ∷ 0x0A ∷ 0x95 ∷ 0x16 ∷ 0x8D ∷ 0x0A ∷ 0xBD ∷ 0xF7 ∷ 0x5C ∷ 0x8B ∷ 0x8B ∷ 0x0A ∷ 0x09 ∷ 0x0E ∷ [],
    )
    ∷ (codes "H", 0x8B ∷ 0xF8 ∷ 0x88 ∷ 0x0D ∷ 0x8B ∷ 0x9F ∷ 0x01 ∷ 0x92 ∷ 0x8F ∷ 0x0A ∷ 0x0E ∷ [])
    ∷ (codes "L", 0x8B ∷ 0xF8 ∷ 0x88 ∷ 0x0D ∷ 0x94 ∷ 0x0A ∷ 0x0E ∷ [])
    ∷ (codes "N", composed 0xCD)
    ∷ (codes "X", glyph_X)
    ∷ (codes "Y", glyph_Y)
    ∷ (codes "acute", 0xBD ∷ 0xF7 ∷ 0xC0 ∷ 0x0D ∷ 0x8B ∷ 0x16 ∷ 0x90 ∷ 0x0A ∷ 0x09 ∷ 0x0E ∷ [])
    ∷ []

abbrev pub tiny : FontValue
tiny = record { shell = shell; encoding = Codes (from_sorted puts); subrs = from_sorted subrs; glyphs = from_sorted glyphs }

-- ---- the clear text, with these lines of codes

abbrev pub encoding_head : List (List ℕ)
encoding_head = codes "/Encoding 256 array" ∷ codes "0 1 255 {1 index exch /.notdef put} for" ∷ []

abbrev pub code_lines : List (List ℕ)
code_lines = codes "dup 66 /Y put" ∷ codes "dup 194 /H put" ∷ []

-- the first line of codes is another
abbrev pub clear_with : List ℕ → List ℕ
clear_with first = head ++ (lines encoding_head ++ (lines (first ∷ code_lines) ++ (codes "readonly def" ++ clear_tail)))

abbrev pub clear : List ℕ
clear = clear_with (codes "dup 65 /X put")

-- ---- the private text

-- an entry: what stands before its bytes, the plain bytes, and the phrase behind them
abbrev pub entry : List ℕ → List ℕ → List ℕ → List ℕ
entry front plain phrase = front ++ (codes " RD " ++ (sealed 4330 4 plain ++ (32 ∷ phrase)))

abbrev pub subr_line : List ℕ → List ℕ → List ℕ
subr_line front plain = entry (codes "dup " ++ front) plain (codes "NP")

abbrev pub glyph_line : List ℕ → List ℕ → List ℕ
glyph_line front plain = entry front plain (codes "ND")

abbrev pub first_subr : List ℕ
first_subr = subr_line (codes "0 15") (0x8E ∷ 0x8B ∷ 0x0C ∷ 0x10 ∷ 0x0C ∷ 0x11 ∷ 0x0C ∷ 0x11 ∷ 0x0C ∷ 0x21 ∷ 0x0B ∷ [])

-- the entries of Subrs 1 to 9
abbrev pub more_subrs : List (List ℕ)
more_subrs =
    subr_line (codes "1 9") (0x8B ∷ 0x8C ∷ 0x0C ∷ 0x10 ∷ 0x0B ∷ [])
    ∷ subr_line (codes "2 9") (0x8B ∷ 0x8D ∷ 0x0C ∷ 0x10 ∷ 0x0B ∷ [])
    ∷ subr_line (codes "3 5") (0x0B ∷ [])
    ∷ subr_line (codes "4 12") (0x8C ∷ 0x8E ∷ 0x0C ∷ 0x10 ∷ 0x0C ∷ 0x11 ∷ 0x0A ∷ 0x0B ∷ [])
    ∷ subr_line (codes "5 7") (0xEF ∷ 0x06 ∷ 0x0B ∷ [])
    ∷ subr_line (codes "6 7") (0x27 ∷ 0x06 ∷ 0x0B ∷ [])
    ∷ subr_line (codes "7 8") (0xEF ∷ 0x9F ∷ 0x01 ∷ 0x0B ∷ [])
    ∷ subr_line (codes "8 4") ([])
    ∷ subr_line (codes "9 7") (0x94 ∷ 0x0A ∷ 0x0B ∷ [])
    ∷ []

abbrev pub first_glyph : List ℕ
first_glyph = glyph_line (codes "/.notdef 9") glyph_notdef

-- the entries of the other glyphs
abbrev pub more_glyphs : List (List ℕ)
more_glyphs =
    glyph_line (codes "/A 14") (0x8B ∷ 0xF8 ∷ 0x88 ∷ 0x0D ∷ 0x8B ∷ 0x16 ∷ 0x91 ∷ 0x0A ∷ 0x09 ∷ 0x0E ∷ [])
    ∷ glyph_line (codes "/Aacute 18") (composed 0xCC)
    ∷ glyph_line (codes "/B 18") (composed 0xCC)
    ∷ glyph_line (codes "/F 50") (0x8B ∷ 0xF8 ∷ 0x88 ∷ 0x0D ∷ 0xEF ∷ 0x16 ∷ 0x8C ∷ 0x0A ∷ 0xBD ∷ 0x16 ∷ 0x8D ∷ 0x0A ∷ 0x63
    ∷ 0x16 ∷ 0x8D ∷ 0x0A ∷ 0x9F ∷ 0x90 ∷ 0x15 ∷ 0x8D ∷ 0x0A ∷ 0x9F ∷ 0x16 ∷ 0x8D ∷ 0x0A ∷ 0x9F ∷ 0x16 ∷ 0x8D ∷ 0x0A ∷ 0x9F
    ∷ 0x86 ∷ 0x15 ∷ 0x8D ∷ 0x0A ∷ 0x95 ∷ 0x16 ∷ 0x8D ∷ 0x0A ∷ 0xBD ∷ 0xF7 ∷ 0x5C ∷ 0x8B ∷ 0x8B ∷ 0x0A ∷ 0x09 ∷ 0x0E ∷ [])
    ∷ glyph_line (codes "/H 15") (0x8B ∷ 0xF8 ∷ 0x88 ∷ 0x0D ∷ 0x8B ∷ 0x9F ∷ 0x01 ∷ 0x92 ∷ 0x8F ∷ 0x0A ∷ 0x0E ∷ [])
    ∷ glyph_line (codes "/L 11") (0x8B ∷ 0xF8 ∷ 0x88 ∷ 0x0D ∷ 0x94 ∷ 0x0A ∷ 0x0E ∷ [])
    ∷ glyph_line (codes "/N 18") (composed 0xCD)
    ∷ glyph_line (codes "/X 19") (glyph_X)
    ∷ glyph_line (codes "/Y 16") (glyph_Y)
    ∷ glyph_line (codes "/acute 14") (0xBD ∷ 0xF7 ∷ 0xC0 ∷ 0x0D ∷ 0x8B ∷ 0x16 ∷ 0x90 ∷ 0x0A ∷ 0x09 ∷ 0x0E ∷ [])
    ∷ []

-- these lines before the tables, the line of Subrs, its entries, what stands before the marker of glyphs, its count, the entries of glyphs
abbrev pub private_with : List (List ℕ) → List ℕ → List (List ℕ) → List ℕ → List ℕ → List (List ℕ) → List ℕ
private_with before array subrs middle count glyphs = lines before ++ (lines (array ∷ subrs) ++ (lines (codes "ND" ∷ [])
    ++ (middle ++ (codes "2 index /CharStrings " ++ (count ++ (codes " dict dup begin" ++ (10 ∷ (lines glyphs ++ (codes "end" ++ (tail ++ 10 ∷ []))))))))))

abbrev pub private_text : List ℕ
private_text = private_with private_lines (codes "/Subrs 10 array") (first_subr ∷ more_subrs) [] (codes "11") (first_glyph ∷ more_glyphs)
