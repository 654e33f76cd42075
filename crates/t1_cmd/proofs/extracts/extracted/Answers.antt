use Rattle.std.{proofs.{Common.{sym, ap, ◌∙◌}, lemmas.Result.{IfErr-weaker}}, specs.Option.{option_map}}
use Rattle.t1_subset.specs.NameSets.{lent}
use Rattle.t1_document.specs.Views.{place_view}
use Rattle.t1_cmd.proofs.ExtractLemmas.{read_or_memory}
use Rattle.t1_cmd.proofs.extracts.extracted.Goals as goal

pub returns-in-Some-clause-refused : goal.returns-in-Some-clause-refused
returns-in-Some-clause-refused c =
    IfErr-weaker c.taken_out.result _ _
    (λ r refused. read_or_memory c.args.name.now (lent c.args.documents.now) (place_view c.in-Some.place) r
    (sym c.in_ok-place.ensures ∙ ap (option_map place_view) c.in-Some.is) refused)
    c.taken_out.ensures.refused
