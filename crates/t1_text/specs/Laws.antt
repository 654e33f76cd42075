-- The laws of the grammar of font texts, each the contract of a function in `laws`.
use Rattle.std.specs.{Prelude.{◌≡◌, ℕ, Bool, List}, Ordering.{nat_cmp}}
use Rattle.t1_grammar.specs.Grammar.{IsExact, first}
use Rattle.t1_text.specs.{Names.{name_cmp}, Entries.{map_of, names_of, last_value, unless_notdef}, declared.dialect.Spacing.{Spacing}, declared.dialect.Dialect.{Dialect}}
use Rattle.t1_text.specs.{Words.{one_white, word, keyword, decimal, name, phrase_of, next_name}, Markers.{encoding_marker, subrs_marker, chars_marker, len_iv_marker, len_iv, closefile}}
use Rattle.t1_text.specs.Encoding.{encoding_word, encoding_table, encoding_loop, encoding_start, octal, code, put_entry, one_copy, range_copy, code_entry, encoding_end, array_start, array_end}
use Rattle.t1_text.specs.{Glyphs.{glyph, glyphs_end}, Entry.{length_from, body}, Subrs.{subr_key, subr, subrs_end}}
use Rattle.std.specs.FinMap as maps

-- what is read of each part of the grammar is what is spelled, and the other way round
pub record ReadsAsSpelled : Type 0 where
  pub words : IsExact word
  pub keywords : (w : List ℕ) → IsExact (keyword w)
  pub numbers : IsExact decimal
  pub names : IsExact name
  pub phrases : (test : List ℕ → Bool) → IsExact (phrase_of test)
  pub blanks : IsExact one_white
  pub encoding_markers : IsExact encoding_marker
  pub encodings : IsExact (first encoding_marker)
  pub encoding_words : (d : Dialect) → IsExact (encoding_word d)
  pub encoding_tables : (d : Spacing) → IsExact (encoding_table d)
  pub encoding_loops : (d : Spacing) → IsExact (encoding_loop d)
  pub starts : (d : Dialect) → IsExact (encoding_start d)
  pub octals : IsExact octal
  pub code_numbers : IsExact code
  pub code_entries : (d : Dialect) → IsExact (code_entry d)
  pub puts : (d : Spacing) → IsExact (put_entry d)
  pub copies : (d : Spacing) → IsExact (one_copy d)
  pub range_copies : (d : Spacing) → IsExact (range_copy d)
  pub encoding_ends : (d : Spacing) → IsExact (encoding_end d)
  pub array_starts : (d : Spacing) → IsExact (array_start d)
  pub array_ends : (d : Spacing) → IsExact (array_end d)
  pub len_iv_markers : IsExact len_iv_marker
  pub lenIVs : IsExact (first len_iv_marker)
  pub lead_counts : IsExact len_iv
  pub subrs_markers : IsExact subrs_marker
  pub tables : IsExact (first subrs_marker)
  pub lengths : (iv : ℕ) → IsExact (length_from iv)
  pub bodies : (iv : ℕ) → IsExact (body iv)
  pub subr_keys : (d : Spacing) (declared : ℕ) → IsExact (subr_key d declared)
  pub subrs : (d : Spacing) (declared iv : ℕ) → IsExact (subr d declared iv)
  pub subrs_ends : (d : Spacing) → IsExact (subrs_end d)
  pub chars_markers : IsExact chars_marker
  pub charstrings : IsExact (first chars_marker)
  pub next_names : (d : Spacing) → IsExact (next_name d)
  pub glyphs : (iv : ℕ) → IsExact (glyph iv)
  pub glyphs_ends : IsExact glyphs_end
  pub close_markers : IsExact closefile
  pub closes : IsExact (first closefile)

-- of a repeated index, name or code the last entry stands, and a code whose last name is `.notdef` has none
pub record LastStands : Type 0 where
  pub subrs : (es : List (ℕ × List ℕ)) (index : ℕ) → maps.get {R = nat_cmp} (map_of es) index ≡ last_value nat_cmp index es
  pub glyphs : (es : List (List ℕ × List ℕ)) (name : List ℕ) → maps.get {R = name_cmp} (map_of es) name ≡ last_value name_cmp name es
  pub codes : (es : List (ℕ × List ℕ)) (code : ℕ) → maps.get {R = nat_cmp} (names_of es) code ≡ unless_notdef (last_value nat_cmp code es)
