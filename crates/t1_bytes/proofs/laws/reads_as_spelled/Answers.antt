use Rattle.t1_bytes.proofs.laws.reads_as_spelled.Goals as goal
use Rattle.t1_bytes.specs.{Eexec.{cipher_text, eexec_marker, hex_cipher, hex_text}, Segments.{end, segment}, White.{gap, white}}
use Rattle.t1_grammar.specs.Grammar.{exact, count, first, fixed}

pub returns : goal.returns
returns c = record {
  counts = λ n. exact (count n);
  texts = λ text. exact (fixed text);
  whites = exact white;
  gaps = exact gap;
  segments = exact segment;
  ends = exact end;
  markers = exact eexec_marker;
  first_markers = exact (first eexec_marker);
  hex_texts = exact hex_text;
  hex_ciphers = exact hex_cipher;
  ciphers = exact cipher_text;
}
