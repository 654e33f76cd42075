use Rattle.std.{proofs.{Common.{ap, ◌∙◌, arith, nat_cmp}, lemmas.Result.{on_ok_weaker}}, specs.FinMap.{insert}}
use Rattle.t1_bytes.specs.Cipher.{plain_of}
use Rattle.t1_font.specs.Gathering.{Entries}
use Rattle.t1_text.specs.Places.{bytes_at_place}
use Rattle.t1_font.proofs.subrs.keep_subr.Goals as goal

pub returns-clause-kept : goal.returns-clause-kept
returns-clause-kept c = on_ok_weaker c.keep_subr.result (λ kept few. ap (λ (g : Entries). g.subrs) kept ∙ ap (λ i. insert {R = nat_cmp}
    c.args.gathered.now.subrs i (plain_of c.args.len_iv (bytes_at_place c.args.gathered.now.rest c.args.body))) c.in-Ok.ensures.1) c.keep_subr.ensures

pub returns-in_default-clause-kept : goal.returns-in_default-clause-kept
returns-in_default-clause-kept c = λ few. absurd (c.in_default.ensures (omega (arith, few)))
