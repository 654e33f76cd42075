use Rattle.std.proofs.Common.{◌≡◌, ◌∙◌, ◌+◌, ◌-◌, ℕ, List, Bool, Bor, ap, subst, arith, length}
use Rattle.std.specs.List.{CopiedTo, SameBelow, SameFrom}
use Rattle.t1_font.specs.{CodeNames.{Marked}, FontValue.{SparseArray}, Gathering.{named_from, copied_names}}
use Rattle.t1_font.proofs.CodeTables.{code_copied}
use Rattle.t1_font.proofs.code_names.CodeNames.copy.Goals as goal

pub returns : goal.returns
returns c =
    let names = c.self.inside.names in
    let named = c.self.inside.named in
    let new = c.copy_within.new.self in
    let from = c.args.from in
    let to = c.args.to in
    let n = c.args.count in
    let size : from + n - from ≡ n = omega arith in
    let moved : CopiedTo names new from to n × SameBelow names new to × SameFrom names new (to + n) =
    subst (λ (m : ℕ). CopiedTo names new from to m × SameBelow names new to × SameFrom names new (to + m)) size
    (subst (λ (l : List (Bor (List ℕ))). CopiedTo l new from to (from + n - from) × SameBelow l new to × SameFrom l new (to + (from + n - from)))
    c.as_mut_slice.ensures.value c.copy_within.ensures.by_index) in
    let all : length new ≡ 256 = c.copy_within.ensures.len ∙ ap length c.as_mut_slice.ensures.value ∙ c.self.invariant.names_all in
    let marked : Marked named c.mark.new.named to (to + n) =
    subst (λ (l : List Bool). Marked l c.mark.new.named to (to + n)) c.as_mut_slice-2.ensures.value c.mark.ensures in
    code_copied names new named c.mark.new.named from to n c.self.invariant all c.requires.from c.requires.to moved.0 moved.1 moved.2 marked
    ∙ ap (λ (m : SparseArray). named_from m to (copied_names m from n)) c.self.view_is
