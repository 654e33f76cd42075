use Rattle.t1_font.proofs.FontReaders.{all_seen}
use Rattle.t1_font_laws.proofs.laws.shows_its_subrs.Goals as goal

pub returns : goal.returns
returns c = all_seen
