use Rattle.t1_document.proofs.Spelled.{places_spell}
use Rattle.t1_document.proofs.laws.places_spell.Goals as goal

pub returns : goal.returns
returns c = places_spell
