use Rattle.std.proofs.Common.{refl, ap}
use Rattle.t1_font.specs.Pieces.{encoding_from, OneWord}
use Rattle.t1_text.specs.{declared.encoding_forms.Opening.{Opening}, Views.{opening_view}}
use Rattle.t1_font.proofs.encoding.encoding_from.Goals as goal

pub returns-in-Word-clause-shown : goal.returns-in-Word-clause-shown
unfolding encoding_from
returns-in-Word-clause-shown c = (
  (OneWord c.in-Word.word.now, c.args.rest.now),
  ap (λ (o : Opening). (encoding_from c.args.dialect c.args.clear.now (opening_view o) c.args.rest.now).read) c.in-Word.is,
  (refl, refl),
)
