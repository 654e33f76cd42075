use Rattle.t1_font.proofs.canonical.RoundTrip.{round_trip}
use Rattle.t1_font_laws.proofs.laws.round_trip.Goals as goal

pub returns : goal.returns
returns c = round_trip
