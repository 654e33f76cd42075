use Rattle.t1_font.proofs.canonical.RoundTrip.{one_canon}
use Rattle.t1_font_laws.proofs.laws.fingerprint.Goals as goal

pub returns : goal.returns
returns c = one_canon
