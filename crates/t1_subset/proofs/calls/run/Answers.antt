use Rattle.t1_run.specs.declared.budget.Stop.TheVariants.{TooManyTokens}
use Rattle.std.proofs.Common.{rules, ◌≡◌, ◌∙◌, ap, List, ℕ, Some}
use Rattle.t1_font.specs.FontModel.{subr_at}
use Rattle.t1_algebra.specs.Profile.{set_of}
use Rattle.t1_subset.proofs.{closing.Runs.{components_are, calls_are}, closing.NumberSets.{of_executed}, Tokens.{glyph_takes, glyph_refused}}
use Rattle.std.specs.FinMap as maps
use Rattle.std.specs.FinSet as sets
use Rattle.t1_subset.proofs.calls.run.Goals as goal

pub returns-clause-components : goal.returns-clause-components
returns-clause-components c = λ n there.
    c.in_ok-names.ensures.names ∙ components_are c.args.font.now c.proof_is_font.ensures n c.args.body.now there

pub returns-clause-calls : goal.returns-clause-calls
returns-clause-calls c = λ n there.
    ap set_of c.in_ok-names.ensures.executed
    ∙ of_executed c.args.calls.now (subr_at c.args.font.now) c.args.body.now
    ∙ ap (sets.union (set_of c.args.calls.now)) (calls_are c.args.font.now c.proof_is_font.ensures n c.args.body.now there)

pub returns-clause-takes : goal.returns-clause-takes
returns-clause-takes c = λ n there.
    glyph_takes c.args.font.now c.proof_is_font.ensures n c.args.body.now there
    c.args.budget.now.left c.parts_and_executed_within.new.budget.left c.in_ok-names.ensures.spends

pub returns-in_err-names-clause-refused : goal.returns-in_err-names-clause-refused
returns-in_err-names-clause-refused c =
    let fewer = λ (h : c.in_err-names.field-0.0 ≡ TooManyTokens) (n : List ℕ) (there : maps.get c.args.font.now.glyphs n ≡ Some c.args.body.now).
    glyph_refused c.args.font.now c.proof_is_font.ensures n c.args.body.now there c.args.budget.now.left (c.in_err-names.ensures.runs_out h).0 in
    search rules
