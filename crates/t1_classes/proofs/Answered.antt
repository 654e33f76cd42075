-- The classes that are answered, one after the other.
use Rattle.std.proofs.Common.{◌≡◌, ◌<◌, ◌+◌, ℕ, List, [], ◌∷◌, ◌++◌, length, get_or, take, sym, ap, ◌∙◌}
use Rattle.std.proofs.lemmas.List.{take_more, map-append}
use Rattle.std.specs.{Borrow.{Bor}, Global.{Vec}}
use Rattle.t1_classes.specs.{declared.classes.Class.{Class}, Partition.{File}, Views.{lent, group_lists}}
use Rattle.t1_classes.specs.Classes.{IsClass, IsApart, AreOthers, AreClasses}

module _ (name : List ℕ) (files : List File) (first g : List File) (c : Class) (is : IsClass name files g c) (apart : IsApart name (first ++ g) c.apart) where
  -- one more class that tells why it doesn't join with the first group
  others_more : (gs : List (List File)) (cs : List Class) → AreOthers name files first gs cs → AreOthers name files first (gs ++ g ∷ []) (cs ++ c ∷ [])
  others_more [] [] h = ((is, apart), tt)
  others_more [] (d ∷ ds) h = absurd h
  others_more (f ∷ fs) [] h = absurd h
  others_more (f ∷ fs) (d ∷ ds) h = (h.0, others_more fs ds h.1)

  pub classes_more : (gs : List (List File)) (cs : List Class) → AreClasses name files (first ∷ gs) cs →
      AreClasses name files (first ∷ (gs ++ g ∷ [])) (cs ++ c ∷ [])
  classes_more gs [] h = absurd h
  classes_more gs (d ∷ ds) h = (h.0, others_more gs ds h.1)

-- the groups up to a place, and that one
pub groups_more : (groups : List (Vec (Bor (List ℕ)))) (i : ℕ) (g : Vec (Bor (List ℕ))) → i < length groups → g ≡ get_or groups i g →
    group_lists (take i groups) ++ lent g.items ∷ [] ≡ group_lists (take (i + 1) groups)
groups_more groups i g lt is =
    sym (ap group_lists (take_more groups i g lt)
    ∙ (map-append (λ (h : Vec (Bor (List ℕ))). lent h.items) (take i groups) (get_or groups i g ∷ [])
    ∙ ap (λ (h : Vec (Bor (List ℕ))). group_lists (take i groups) ++ lent h.items ∷ []) (sym is)))
