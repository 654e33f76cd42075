use Rattle.std.{proofs.Common.{◌≡◌, ◌++◌, map}, specs.Prelude.{Some}}
use Rattle.t1_font.specs.{FontModel.{subrs_view}, Writing.{subrs_text, subrs_part}, Canon.{subr_entry, subrs_pieces}}
use Rattle.std.specs.FinMap as fin
use Rattle.t1_font.proofs.private_writing.put_subrs.Given as goal

abbrev pub invariant-subrs : goal.invariant-subrs
invariant-subrs l = l.out ++ subrs_text (map (subr_entry l.len_iv (subrs_view l.kept)) l.index-iterator) l.kept.closing.items
    ≡ l.fn.out ++ subrs_part (Some (subrs_pieces l.len_iv (fin.entries l.subrs) (subrs_view l.kept)))
