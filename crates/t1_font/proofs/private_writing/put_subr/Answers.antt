use Rattle.std.proofs.Common.{◌++◌, ◌∙◌}
use Rattle.t1_font.{specs.FontModel.{subrs_view}, proofs.Lengths.{subr_put, after_key}}
use Rattle.t1_font.proofs.private_writing.put_subr.Goals as goal

pub returns : goal.returns
returns c = subr_put c.args.out.now _ _ _ c.args.len_iv
    (subrs_view c.args.kept.now) c.args.index c.args.plain.now c.in_ok-put.ensures c.in_ok-put_number.ensures (c.in_ok-put_body.ensures
    ∙ (λ i. c.put_number.new.self ++ after_key c.args.len_iv c.args.plain.now (c.as_slice.ensures.value i) (c.as_slice-2.ensures.value i)))
