use Rattle.t1_text.proofs.laws.reads_as_spelled.Goals as goal
use Rattle.t1_text.specs.Encoding.{array_end, array_start, code, put_entry, one_copy, range_copy, code_entry, encoding_end, encoding_loop, encoding_start, encoding_table, encoding_word, octal}
use Rattle.t1_text.specs.{Entry.{body, length_from}, Markers.{chars_marker, closefile, encoding_marker, len_iv, len_iv_marker, subrs_marker}}
use Rattle.t1_text.specs.{Words.{decimal, keyword, name, next_name, one_white, phrase_of, word}, Glyphs.{glyph, glyphs_end}, Subrs.{subr, subr_key, subrs_end}}
use Rattle.t1_grammar.specs.Grammar.{exact, first}

pub returns : goal.returns
returns c = record {
  words = exact word;
  keywords = λ w. exact (keyword w);
  numbers = exact decimal;
  names = exact name;
  phrases = λ test. exact (phrase_of test);
  blanks = exact one_white;
  encoding_markers = exact encoding_marker;
  encodings = exact (first encoding_marker);
  encoding_words = λ d. exact (encoding_word d);
  encoding_tables = λ d. exact (encoding_table d);
  encoding_loops = λ d. exact (encoding_loop d);
  starts = λ d. exact (encoding_start d);
  octals = exact octal;
  code_numbers = exact code;
  code_entries = λ d. exact (code_entry d);
  puts = λ d. exact (put_entry d);
  copies = λ d. exact (one_copy d);
  range_copies = λ d. exact (range_copy d);
  encoding_ends = λ d. exact (encoding_end d);
  array_starts = λ d. exact (array_start d);
  array_ends = λ d. exact (array_end d);
  len_iv_markers = exact len_iv_marker;
  lenIVs = exact (first len_iv_marker);
  lead_counts = exact len_iv;
  subrs_markers = exact subrs_marker;
  tables = exact (first subrs_marker);
  lengths = λ iv. exact (length_from iv);
  bodies = λ iv. exact (body iv);
  subr_keys = λ d declared. exact (subr_key d declared);
  subrs = λ d declared iv. exact (subr d declared iv);
  subrs_ends = λ d. exact (subrs_end d);
  chars_markers = exact chars_marker;
  charstrings = exact (first chars_marker);
  next_names = λ d. exact (next_name d);
  glyphs = λ iv. exact (glyph iv);
  glyphs_ends = exact glyphs_end;
  close_markers = exact closefile;
  closes = exact (first closefile);
}
