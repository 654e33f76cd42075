use Rattle.t1_font.proofs.read_fonts.ReadFontLaws.{spelled_font}
use Rattle.t1_text.specs.Dialect.{strict}
use Rattle.t1_algebra.proofs.Headline.{comes_to_subset}
use Rattle.t1_subset.proofs.laws.headline.Goals as goal

pub returns : goal.returns
returns c file f bytes spells all m p i k = comes_to_subset f (spelled_font strict file f bytes spells) all m p i k
