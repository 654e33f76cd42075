use Rattle.std.{proofs.Common.{◌≡◌, ℕ, not, ◌&&◌, List, map, Some}, specs.{Option.{option_map}, List.{AllByRecursion}}}
use Rattle.t1_algebra.specs.{Keep.{has}, Profile.{profile}, States.{executes, executed_at, called_at}, Conflicts.{wants}, Lacks.{user_of}}
use Rattle.t1_subset.{specs.{References.{seeker_of}, Users.{user_at}}, proofs.{state_tables.FontReferences.{IsNoting}, Tokens.{SpentSoFar}}}
use Rattle.std.specs.FinMap as maps
use Rattle.t1_subset.proofs.state_making.uses_of.Given as goal

abbrev pub invariant-glyphs : goal.invariant-glyphs
invariant-glyphs l =
    ((q : ℕ) → IsNoting (λ n. executes profile l.font n q) (user_at l.users.items q)
    (user_of l.font q) (executed_at profile l.font q (option_map (λ c. c.now) l.last)) (map (λ e. e.0) l.name-iterator))
    × ((p : List ℕ) → IsNoting (λ n. wants profile l.font n p) (maps.get l.seekers p) (seeker_of l.font p)
    (not (has l.font p) && called_at profile l.font p (option_map (λ c. c.now) l.last)) (map (λ e. e.0) l.name-iterator))
    × SpentSoFar l.font (option_map (λ c. c.now) l.last) (map (λ e. e.0) l.name-iterator) l.initial.budget.left l.budget.left
    × AllByRecursion (λ e. maps.get l.font.glyphs e.0 ≡ Some e.1) l.name-iterator
