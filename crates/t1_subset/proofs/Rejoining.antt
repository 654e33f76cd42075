-- Fonts that are filled have the references and the states that they had.
use Rattle.std.proofs.{Common.{◌≡◌, ◌<◌, ◌≤◌, ◌+◌, ℕ, zero, suc, arith, List, [], ◌∷◌, map, drop, length, get_or, refl, ap, sym, ◌∙◌, inl, inr, None}, lemmas.List.{drop_more, drop_all}}
use Rattle.t1_font.specs.{FontValue.{FontValue}, Normalizing.{filled, indices_of_all}, Filling.{AreLight, AnyHeavy}}
use Rattle.t1_algebra.{specs.{Lacks.{Lack, lack_in, lack_among, first_lack}, Searches.{found}}, proofs.rejoining.FilledStates.{states_same, user_same, seeker_same, unlacking_quiet}}
use Rattle.t1_subset.specs.{declared.fault.RejoinFault.{RejoinFault}, declared.fault.RejoinFault.TheVariants.{Lacks, Merge}, References.{RunAlike}, Rejoins.{TellsLack}}

-- a font that lacks nothing runs alike once it is filled
pub filled_alike : (fs : List FontValue) (f : FontValue) → lack_in fs f ≡ None → RunAlike f (filled (indices_of_all fs) f)
filled_alike fs f none =
    let quiet = unlacking_quiet fs f none in
    record {
      states = ap (λ s. s.1) (states_same f (indices_of_all fs) quiet);
      users = user_same f (indices_of_all fs) quiet;
      seekers = seeker_same f (indices_of_all fs) quiet;
      count = refl;
    }

-- a font runs like itself
pub runs_itself : (f : FontValue) → RunAlike f f
runs_itself f = record { states = refl; users = λ i. refl; seekers = λ p. refl; count = refl }

-- ---- lists

-- what stands at a place of what a list is mapped to
pub map_at : {A B : Type 0} (f : A → B) (xs : List A) (i : ℕ) (x : A) (y : B) → i < length xs → x ≡ get_or xs i x → y ≡ get_or (map f xs) i y → y ≡ f x
map_at f [] i x y l e k = absurd (omega (arith, l))
map_at f (z ∷ xs) zero x y l e k = k ∙ ap f (sym e)
map_at f (z ∷ xs) (suc i) x y l e k = map_at f xs i x y (omega (arith, l)) e k

module _ (fs : List FontValue) (i : ℕ) (x : FontValue) (room : i < length fs) (is : x ≡ get_or fs i x) (far : lack_among fs (drop i fs) ≡ first_lack fs) where
  next : drop i fs ≡ x ∷ drop (i + 1) fs
  next = drop_more fs i x room ∙ ap (λ (f : FontValue). f ∷ drop (i + 1) fs) (sym is)

  -- where a font lacks nothing, the first lack is among those behind it
  pub lack_behind : lack_in fs x ≡ None → lack_among fs (drop (i + 1) fs) ≡ first_lack fs
  lack_behind none = ap (λ o. found (λ (l : Lack). l) o (lack_among fs (drop (i + 1) fs))) (sym none) ∙ (ap (lack_among fs) (sym next) ∙ far)

  -- where it lacks something, that is the first lack
  pub lack_first : (e : RejoinFault) → TellsLack e (lack_in fs x) → TellsLack e (first_lack fs)
  lack_first (Lacks glyph index) h =
      sym far ∙ (ap (lack_among fs) next ∙ ap (λ o. found (λ (l : Lack). l) o (lack_among fs (drop (i + 1) fs))) h)
  lack_first (Merge e) h = h

-- behind all fonts none lacks anything
pub no_lack_behind : (fs : List FontValue) (i : ℕ) → length fs ≤ i → lack_among fs (drop i fs) ≡ first_lack fs → first_lack fs ≡ None
no_lack_behind fs i past far = sym far ∙ ap (lack_among fs) (drop_all i fs past)

-- fonts of which each is light are not heavy
pub light_or_heavy : (fs : List FontValue) → AreLight fs → AnyHeavy fs → ⊥
light_or_heavy [] l h = h
light_or_heavy (f ∷ fs) l (inl h) = omega (arith, l.0, h)
light_or_heavy (f ∷ fs) l (inr h) = light_or_heavy fs l.1 h
