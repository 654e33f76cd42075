use Rattle.std.{proofs.Common.{◌++◌, sym, ap, ◌∙◌}, specs.FinMap.{entries}}
use Rattle.t1_font.{specs.{Writing.{puts_text, encoding_text}, Canon.{encoding_pieces}, FontModel.{encoding_of}}, proofs.Lengths.{three_put}}
use Rattle.t1_font.proofs.writing.put_encoding.Goals as goal

pub returns-in_ok-put_codes-in-Codes : goal.returns-in_ok-put_codes-in-Codes
returns-in_ok-put_codes-in-Codes c =
    three_put c.args.out.now.items _ _ (puts_text (entries c.in-Codes.names))
    _ _ _ c.in_ok-extend_from_slice.ensures.items c.in_ok-extend_from_slice-in-Codes.ensures.items c.in_ok-put_codes-in-Codes.ensures
    ∙ ap (λ e. c.args.out.now.items ++ encoding_text (encoding_pieces (encoding_of e))) (sym c.in-Codes.is)
