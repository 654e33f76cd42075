use Rattle.std.proofs.Common.{ℕ, List, map}
use Rattle.t1_join.specs.TableMeaning.{joined_table}
use Rattle.t1_font.specs.FontValue.{FontValue}
use Rattle.t1_algebra.specs.{Profile.{profile}, Conflicts.{Conflict, lacks_component, component_clashes}}
use Rattle.t1_subset.proofs.Telling.{Adding, each_told}
use Rattle.std.specs.FinMap as maps
use Rattle.t1_subset.proofs.differences.add_components.Given as goal

-- the conflicts of the components of these that clash
abbrev told : FontValue → FontValue → List (List ℕ) → List Conflict
told f g ps = each_told (component_clashes profile f g) (lacks_component profile f g) ps

abbrev pub invariant-sought : goal.invariant-sought
invariant-sought l = Adding l.initial.all.items l.all.items
    (told l.own.references.font.now l.other.references.font.now (maps.keys (joined_table l.own.references.seekers l.other.references.seekers)))
    (told l.own.references.font.now l.other.references.font.now (map (λ e. e.0) l.component-iterator))
