use Rattle.std.{proofs.{Common.{ℕ, List, ◌++◌, refl, nat_eq, slice_index_or}, lemmas.Bool.{agree_below_at}}, specs.Prelude.{codes}}
use Rattle.t1_text.specs.Words.{is_regular}
use Rattle.t1_text.proofs.words.is_regular.Goals as goal

abbrev kinds : List ℕ
kinds =
    codes "w........ww.ww..................w....d..dd.....d............d.d............................d.d.............................d.d.."
    ++ codes "................................................................................................................................"

pub returns : goal.returns
returns c = agree_below_at (λ b. nat_eq (slice_index_or kinds b 0) 46) is_regular 256 c.args.byte refl c.ranges.byte.fits
