use Rattle.t1_font.proofs.read_fonts.ReadFontLaws.{head_starts}
use Rattle.t1_font_laws.proofs.laws.head_starts.Goals as goal

pub returns : goal.returns
returns c = head_starts
