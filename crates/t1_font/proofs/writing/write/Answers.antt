use Rattle.std.proofs.Common.{◌≤◌, List, ℕ, length, sym, ap, subst, ◌∙◌}
use Rattle.t1_font.specs.{FontValue.{FontValue}, IsFont.{IsFont}, Canon.{canon}, ReadFont.{read_font}}
use Rattle.t1_font.proofs.{canonical.RoundTrip.{round_trip}, canonical.LengthLemmas.{canon_short}, canonical.WriteAnswers.{clear_fits, cipher_fits}}
use Rattle.t1_bytes.specs.Limits.{file_limit}
use Rattle.t1_font.proofs.writing.write.Goals as goal

pub canonical-requires-clause-clear : goal.canonical-requires-clause-clear
canonical-requires-clause-clear c = clear_fits c.font.inside.parts c.font.invariant

pub canonical-requires-clause-cipher : goal.canonical-requires-clause-cipher
canonical-requires-clause-cipher c = cipher_fits c.font.inside.parts c.font.invariant

pub returns-clause-canon : goal.returns-clause-canon
returns-clause-canon c = c.in_ok-file.ensures ∙ ap (λ (f : FontValue). canon f c.args.form) c.font.view_is

pub returns-clause-again : goal.returns-clause-again
returns-clause-again c = λ fits. ap read_font (c.in_ok-file.ensures ∙ ap (λ (f : FontValue). canon f c.args.form) c.font.view_is)
    ∙ round_trip c.args.font.now c.args.form (subst IsFont c.font.view_is c.font.invariant) fits

pub returns-clause-short : goal.returns-clause-short
returns-clause-short c = subst (λ (t : List ℕ). length t ≤ file_limit) (sym c.in_ok-file.ensures) (canon_short c.font.inside.parts c.args.form c.font.invariant)
