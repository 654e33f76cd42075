-- The new texts of a document's places, as code keeps them.
use Rattle.std.proofs.{Common.{◌≡◌, ℕ, Bool, true, false, cond, List, [], ◌∷◌, None, refl, sym, ap, subst, ◌∙◌, inl, inr}, lemmas.Bool.{cases_Bool, cond-true, cond-false, true≢false}}
use Rattle.std.specs.{Prelude.{◌||◌, not}, List.{list_any}, Option.{option_and_then}, Str.{bytes_eq}}
use Rattle.t1_document.specs.{Documents.{Place}, Rewriting.{NewTexts}, Joins.{lacks_name, places_under, ComeTo, Outcomes, AreOutcomes, text_for_places, new_texts}}
use Rattle.t1_document.proofs.WriteLoop.{same_test}

-- ---- new texts

-- no place has a name that these lack
pub none_under : (name : List ℕ) (ps : List Place) → lacks_name name ps ≡ true → places_under name ps ≡ []
none_under name [] h = refl
none_under name (p ∷ ps) h = by_test (bytes_eq p.name name) (same_test p.name name) (none_under name ps)
  where
    by_test : (b : Bool) → b ≡ bytes_eq name p.name → (lacks_name name ps ≡ true → places_under name ps ≡ []) →
        cond b (p ∷ places_under name ps) (places_under name ps) ≡ []
    by_test true e rest = absurd (true≢false (sym h ∙ ap (λ (c : Bool). not (c || list_any (λ q. bytes_eq name q.name) ps)) (sym e)))
    by_test false e rest = rest (ap (λ (c : Bool). not (c || list_any (λ q. bytes_eq name q.name) ps)) e ∙ h)

module _ (ps : List Place) (outcomes : Outcomes) (are : AreOutcomes ps outcomes) where
  -- a name of no place has no outcome
  none_out : (name : List ℕ) → lacks_name name ps ≡ true → outcomes name ≡ None
  none_out name h = subst (λ (qs : List Place). ComeTo name qs (outcomes name)) (none_under name ps h) (are name)

  -- so the texts of the names of the places are the new texts
  pub texts_are : (texts : NewTexts) → ((name : List ℕ) → texts name ≡ cond (lacks_name name ps) None (new_texts outcomes name)) → texts ≡ new_texts outcomes
  texts_are texts h = λ i name. one name i
    where
      one : (name : List ℕ) → texts name ≡ new_texts outcomes name
      one name = elim (cases_Bool (lacks_name name ps)) [
        | inl t ↦ h name ∙ (cond-true (lacks_name name ps) None (new_texts outcomes name) t
            ∙ ap (option_and_then text_for_places) (sym (none_out name t)))
        | inr f ↦ h name ∙ cond-false (lacks_name name ps) None (new_texts outcomes name) f
      ]
