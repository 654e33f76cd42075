use Rattle.t1_classes.proofs.joining.rejoined_text.Goals as goal

pub returns-clause-text : goal.returns-clause-text
returns-clause-text c = (c.in-Ok.font, c.in-Ok.ensures.ok, c.in_ok-text.ensures)
