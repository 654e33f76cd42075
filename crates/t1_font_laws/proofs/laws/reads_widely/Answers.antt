use Rattle.t1_font.proofs.{Spelled.{reads, reads_again, one_font}, Reasoned.{refuses, refuses_again}, Widely.{spells_widely}}
use Rattle.t1_text.specs.Dialect.{wide}
use Rattle.t1_font_laws.proofs.laws.reads_widely.Goals as goal

pub returns : goal.returns
returns c = record {
  spelled = λ file font. (reads wide file font, reads_again wide file font);
  one = one_font wide;
  reason = λ file e. (refuses wide file e, refuses_again wide file e);
  same = spells_widely;
}
