use Rattle.std.proofs.{Common.{◌∙◌, sym, map}, lemmas.Result.{on_ok_weaker, IfErr-weaker}}
use Rattle.t1_algebra.specs.Profile.{set_of}
use Rattle.t1_subset.specs.{Budgets.{glyph_tokens}, LastRuns.{RunsTo}}
use Rattle.t1_subset.proofs.LastRuns.{noted_again, noted_now, taken_again, refused_again, ran, runs_within}
use Rattle.t1_subset.proofs.last_runs.LastRun.go_on.Goals as goal

pub returns-then-is_again-clause-components : goal.returns-then-is_again-clause-components
returns-then-is_again-clause-components c =
    let known = noted_again c.args.font.now c.args.name.now _ c.charstring-charstring.ensures _ _ c.args.self.now
    (sym c.is_again.ensures ∙ c.if-is_again.true) c.requires in
    on_ok_weaker c.take.result (λ t. known.names) c.take.ensures.takes

pub returns-then-is_again-clause-calls : goal.returns-then-is_again-clause-calls
returns-then-is_again-clause-calls c =
    let known = noted_again c.args.font.now c.args.name.now _ c.charstring-charstring.ensures _ _ c.args.self.now
    (sym c.is_again.ensures ∙ c.if-is_again.true) c.requires in
    on_ok_weaker c.take.result (λ t. sym known.executes) c.take.ensures.takes

pub returns-then-is_again-clause-takes : goal.returns-then-is_again-clause-takes
returns-then-is_again-clause-takes c =
    let f = c.args.font.now in
    let n = c.args.name.now in
    let known = noted_again f n _ c.charstring-charstring.ensures _ _ c.args.self.now (sym c.is_again.ensures ∙ c.if-is_again.true) c.requires in
    on_ok_weaker c.take.result
    (λ t. taken_again (glyph_tokens f n) c.args.self.now.tokens c.args.budget.now.left c.take.new.budget.left
    (runs_within f n _ _ _ _ known) t) c.take.ensures.takes

pub returns-then-is_again-clause-refused : goal.returns-then-is_again-clause-refused
returns-then-is_again-clause-refused c =
    let f = c.args.font.now in
    let n = c.args.name.now in
    let known = noted_again f n _ c.charstring-charstring.ensures _ _ c.args.self.now (sym c.is_again.ensures ∙ c.if-is_again.true) c.requires in
    IfErr-weaker c.take.result _ _
    (λ e h is. refused_again (glyph_tokens f n) c.args.self.now.tokens c.args.budget.now.left c.take.new.budget.left
    (runs_within f n _ _ _ _ known) h.1) c.take.ensures.refused

pub returns-clause-last : goal.returns-clause-last
returns-clause-last c =
    let f = c.args.font.now in
    let n = c.args.name.now in
    noted_now f n _ c.charstring-charstring.ensures
    (RunsTo f (set_of c.run_of.new.calls) c.run_of.new.budget.left (map (λ s. s.now) c.in_ok-self.field-0.items) c.taken-self.result)
    (ran f n _ _ _ _ _ c.in_ok-self.ensures.components c.in_ok-self.ensures.calls
    (c.taken-self.ensures (glyph_tokens f n) c.in_ok-self.ensures.takes))
