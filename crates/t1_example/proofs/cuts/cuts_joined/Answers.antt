use Rattle.std.proofs.{Common.{[], ◌∷◌}, lemmas.Result.{IfOk-weaker}}
use Rattle.t1_font.proofs.AnswersRight.{bytes_of_slice}
use Rattle.t1_example.proofs.Rejoined.{drawn_so}
use Rattle.t1_example.proofs.cuts.cuts_joined.Goals as goal

pub returns-clause-bytes : goal.returns-clause-bytes
returns-clause-bytes c f h t u s k o get = c.rejoin_files.ensures.cuts f h t (u ∷ []) (s, (k, tt)) o get

pub returns-clause-draws : goal.returns-clause-draws
returns-clause-draws c f g e k = IfOk-weaker c.rejoin_files.result _ _
    (λ v d. drawn_so (λ v. v.items) c.args.form c.args.first.now c.args.second.now v
    (bytes_of_slice c.args.first.now c.type_inv.first) (bytes_of_slice c.args.second.now c.type_inv.second) d f g e k)
    c.rejoin_files.ensures.text
