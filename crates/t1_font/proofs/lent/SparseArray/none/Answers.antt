use Rattle.std.proofs.Common.{ap, ◌∙◌, length, map, []}
use Rattle.std.specs.Ordering.{nat_cmp}
use Rattle.t1_font.specs.Lent.{lent_number}
use Rattle.std.specs.FinMap as fin
use Rattle.t1_font.proofs.lent.SparseArray.none.Goals as goal

pub returns : goal.returns
returns c =
    c.made.ensures
    ∙ (ap (λ es. fin.from_sorted {R = nat_cmp} (map lent_number es)) c.new.ensures.items
    ∙ fin.empty_of_len _ (fin.len-entries _ ∙ ap length (fin.entries-from_sorted nat_cmp [] tt)))
