use Rattle.std.proofs.{Common.{◌≡◌, ap, sym, ◌∙◌, length}, lemmas.List.{length-map}, lemmas.Bool.{false_from_ne_true}}
use Rattle.std.specs.{Cmp.{Equal-is}, FinSet.{slice_cmp-IsAntisymmetric, nat_cmp-IsAntisymmetric}}
use Rattle.t1_font.specs.FontValue.{SparseArray, name_cmp}
use Rattle.std.specs.FinMap as maps
use Rattle.t1_font.proofs.lent.same_keys.Goals as goal

-- a table has as many entries as keys
counted : (m : SparseArray) → maps.len m ≡ length (maps.keys m)
counted m = maps.len-entries m ∙ sym (length-map (maps.entries m) (λ e. e.0))

pub returns-then-len : goal.returns-then-len
returns-then-len c =
    let m = c.args.left.now in
    let n = c.args.right.now in
    sym (false_from_ne_true _
    (λ h. let same = slice_cmp-IsAntisymmetric nat_cmp-IsAntisymmetric (maps.keys m) (maps.keys n) ((Equal-is (name_cmp (maps.keys m) (maps.keys n))).0 h) in
    c.if-len.true (c.len.ensures ∙ counted m ∙ ap length same
    ∙ sym (c.len-2.ensures ∙ counted n))))
