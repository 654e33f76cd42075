-- What makes a value a font: its canonical file is read as itself. A cut of a font and a join of two keep it.
use Rattle.std.specs.{Prelude.{◌≡◌, ℕ, ◌+◌, ◌≤◌, ◌<◌, true, false, List, [], ◌∷◌, ◌++◌, Option, Some, None, Ok}, Option.{option_map}, Str.{bytes_eq}}
use Rattle.std.specs.FinMap.{get, contains_key, len, entries}
use Rattle.t1_bytes.specs.{Laws.{AreBytes}, Eexec.{eexec_marker}}
use Rattle.t1_grammar.specs.Grammar.{first, Stops, Lacks}
use Rattle.t1_font.specs.Pieces.{iv_of}
use Rattle.t1_text.specs.{Words.{word_limit, name_limit, is_regular}, Markers.{encoding_marker, subrs_marker, chars_marker, closefile}}
use Rattle.t1_font.specs.FontValue.{FontValue, Shell, SubrsShell, Encoding, Word, Codes, SparseArray, CharStrings, notdef, count_limit, weight_limit, weight}
use Rattle.t1_text.specs.FontWords.{IsWord, IsPhrase, IsCharstring, NoMarker}

-- ---- the shell

-- the clear text around the Encoding: neither an Encoding marker nor `currentfile eexec` in `head`; the first `currentfile eexec` of `clear_tail` ends it
pub record IsClearShell (s : Shell) : Type 0 where
  pub head_encoding : NoMarker encoding_marker s.head
  pub head_eexec : NoMarker eexec_marker s.head
  pub tail_apart : Stops is_regular s.clear_tail
  pub tail_ends : option_map (λ x. x.1) ((first eexec_marker).read (s.clear_tail ++ 10 ∷ [])) ≡ Some (10 ∷ [])

-- the private text around the tables: its lenIV, no marker of a table, and a first `closefile` that ends it
pub record IsPrivateShell (s : Shell) : Type 0 where
  pub iv : (iv_of s.private).read ≡ Ok s.len_iv
  pub no_subrs : NoMarker subrs_marker s.private
  pub no_chars : NoMarker chars_marker s.private
  pub middle_apart : Stops is_regular s.middle
  pub middle_chars : NoMarker chars_marker s.middle
  pub middle_subrs : Lacks subrs_marker s.middle
  pub tail_apart : Stops is_regular s.tail
  pub tail_subrs : Lacks subrs_marker s.tail
  pub tail_ends : option_map (λ x. x.1) ((first closefile).read s.tail) ≡ Some []

-- the five kept texts are bytes
pub record AreTexts (s : Shell) : Type 0 where
  pub head : AreBytes s.head
  pub clear_tail : AreBytes s.clear_tail
  pub private : AreBytes s.private
  pub middle : AreBytes s.middle
  pub tail : AreBytes s.tail

-- ---- the tables

-- the kept words of the entries, empty where there are no entries
abbrev pub SubrWords : List (ℕ × List ℕ) → SubrsShell → Type 0
SubrWords [] s = (s.rd ≡ []) × (s.put ≡ [])
SubrWords (e ∷ es) s = IsWord word_limit s.rd × IsPhrase true s.put

-- Subrs that are within their count and fit their charstrings, and the phrase that closes them
pub record IsSubrs (iv : ℕ) (s : SubrsShell) (m : SparseArray) : Type 0 where
  pub declared : s.declared ≤ count_limit
  pub below : (i : ℕ) (c : List ℕ) → get m i ≡ Some c → i < s.declared
  pub bodies : (i : ℕ) (c : List ℕ) → get m i ≡ Some c → IsCharstring iv c
  pub words : SubrWords (entries m) s
  pub closing : IsPhrase false s.closing

-- a font without Subrs has no entries, and its CharStrings marker ends `private`
abbrev pub SubrsFit : Shell → Option SubrsShell → SparseArray → Type 0
SubrsFit s None m = (entries m ≡ []) × (s.middle ≡ [])
SubrsFit s (Some t) m = IsSubrs s.len_iv t m

-- glyphs with their kept words, `.notdef` among them
pub record AreGlyphs (s : Shell) (m : CharStrings) : Type 0 where
  pub rd : IsWord word_limit s.glyphs_rd
  pub def : IsPhrase true s.glyphs_def
  pub names : (n c : List ℕ) → get m n ≡ Some c → IsWord name_limit n
  pub bodies : (n c : List ℕ) → get m n ≡ Some c → IsCharstring s.len_iv c
  pub notdef : contains_key m notdef ≡ true
  pub few : len m ≤ count_limit

-- a code, and its name, which isn't `.notdef`
pub record IsCode (c : ℕ) (n : List ℕ) : Type 0 where
  pub code : c ≤ 255
  pub name : IsWord name_limit n
  pub put : bytes_eq notdef n ≡ false

-- one word, or the names of codes
abbrev pub IsEncoding : Encoding → Type 0
IsEncoding (Word w) = IsWord word_limit w
IsEncoding (Codes m) = (c : ℕ) (n : List ℕ) → get m c ≡ Some n → IsCode c n

-- ---- the font

-- Each part by itself. What depends on the maps (`encoding`, `subrs`, `glyphs`, `light`) is what a cut or a join has to keep.
pub record IsFont (f : FontValue) : Type 0 where
  pub clear : IsClearShell f.shell
  pub private : IsPrivateShell f.shell
  pub texts : AreTexts f.shell
  pub encoding : IsEncoding f.encoding
  pub subrs : SubrsFit f.shell f.shell.subrs f.subrs
  pub glyphs : AreGlyphs f.shell f.glyphs
  pub light : weight f ≤ weight_limit

-- ---- bytes

-- its word, or each name
abbrev pub EncodingBytes : Encoding → Type 0
EncodingBytes (Word w) = AreBytes w
EncodingBytes (Codes m) = (c : ℕ) (n : List ℕ) → get m c ≡ Some n → AreBytes n

-- the kept words of Subrs
abbrev pub SubrsBytes : Option SubrsShell → Type 0
SubrsBytes None = Unit {0}
SubrsBytes (Some s) = AreBytes s.rd × AreBytes s.put × AreBytes s.closing

-- the texts, words, names and charstrings of a value are bytes
pub record HasBytes (f : FontValue) : Type 0 where
  pub texts : AreTexts f.shell
  pub encoding : EncodingBytes f.encoding
  pub subrs_words : SubrsBytes f.shell.subrs
  pub subrs : (i : ℕ) (c : List ℕ) → get f.subrs i ≡ Some c → AreBytes c
  pub rd : AreBytes f.shell.glyphs_rd
  pub def : AreBytes f.shell.glyphs_def
  pub names : (n c : List ℕ) → get f.glyphs n ≡ Some c → AreBytes n
  pub glyphs : (n c : List ℕ) → get f.glyphs n ≡ Some c → AreBytes c
