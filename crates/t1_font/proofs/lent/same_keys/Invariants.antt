use Rattle.std.{proofs.Common.{◌≡◌, map}, specs.Ordering.{is_eq}}
use Rattle.t1_font.specs.FontValue.{name_cmp}
use Rattle.std.specs.FinMap as maps
use Rattle.t1_font.proofs.lent.same_keys.Given as goal

abbrev pub invariant-entries : goal.invariant-entries
invariant-entries l =
    is_eq (name_cmp (map (λ e. e.0) l.number-iterator) (map (λ e. e.0) l.others)) ≡ is_eq (name_cmp (maps.keys l.left) (maps.keys l.right))
