use Rattle.std.{proofs.Common.{sym, ap, ◌∙◌}, specs.Option.{option_map}}
use Rattle.t1_document.{specs.Texts.{text_in}, proofs.WriteLoop.{tried_more}}
use Rattle.t1_document.proofs.rewriting.is_barred.Goals as goal

pub returns-clause-tried : goal.returns-clause-tried
returns-clause-tried c =
    tried_more (text_in c.args.new.now) (text_in c.args.tried.now) (text_in c.put.new.self) c.args.place.now.name.now c.in-Some.text.now
    c.args.place.now.rest.now c.requires c.in_ok-put.ensures.put (sym (ap (option_map (λ t. t.now)) (sym c.in-Some.is) ∙ c.get.ensures))
    (sym c.in_ok-can_stand.ensures ∙ c.if-not-branch.false)
