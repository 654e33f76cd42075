use Rattle.t1_font.proofs.{normal_fonts.NormalStays.{normalized_twice}, normal_fonts.NormalTexts.{normal_texts_stay}}
use Rattle.t1_font_laws.proofs.laws.normalized_twice.Goals as goal

pub returns-clause-texts : goal.returns-clause-texts
returns-clause-texts c = normal_texts_stay

pub returns-clause-fonts : goal.returns-clause-fonts
returns-clause-fonts c = normalized_twice
