-- Tags are read as they are spelled, and what stands behind them ends the text.
use Rattle.std.proofs.{Common.{◌≡◌, ℕ, zero, suc, ◌≤◌, ◌<◌, arith, List, [], ◌∷◌, ◌++◌, length, Option, Some, None, refl, sym, ap, ◌∙◌, append_assoc}, lemmas.List.{length-append}}
use Rattle.std.proofs.lemmas.Option.{none-some, same_Some}
use Rattle.std.specs.Option.{option_map}
use Rattle.t1_text.specs.Tags.{tag, past_tag, behind_tags, untagged}

-- a tag has bytes
pub tag_shortens : (text : List ℕ) (x : List ℕ × List ℕ) → tag.read text ≡ Some x → length x.1 < length text
unfolding tag
tag_shortens text x e =
    let s = tag.takes text x e in
    let six : length s.2.1 ≡ 6 = ap length s.2.4.0.0 ∙ s.2.4.0.1 in
    omega (arith, ap length s.1, length-append s.0 x.1, ap length s.2.3, length-append s.2.1 s.2.2, six)

-- ---- behind tags

-- a text is something, and then what is behind its tags
abbrev pub EndsWith : List ℕ → List ℕ → Type 0
EndsWith text end = (u : List ℕ) × (text ≡ u ++ end)

ends_past : (n : ℕ) (text : List ℕ) → ((t : List ℕ) → EndsWith t (behind_tags n t)) → (o : Option (List ℕ × List ℕ)) → tag.read text ≡ o →
    EndsWith text (past_tag (behind_tags n) text o)
ends_past n text h None e = ([], refl)
ends_past n text h (Some x) e =
    let s = tag.takes text x e in
    let r = h x.1 in
    (s.0 ++ r.0, s.1 ∙ (ap (λ (v : List ℕ). s.0 ++ v) r.1 ∙ sym (append_assoc s.0 r.0 (behind_tags n x.1))))

-- what stands behind tags is the end of the text
pub ends_untagged : (n : ℕ) (text : List ℕ) → EndsWith text (behind_tags n text)
unfolding behind_tags
ends_untagged zero text = ([], refl)
ends_untagged (suc n) text = ends_past n text (ends_untagged n) (tag.read text) refl

-- where no tag comes, all of the text stays
pub no_tag : (n : ℕ) (text : List ℕ) → tag.read text ≡ None → behind_tags n text ≡ text
unfolding behind_tags
no_tag zero text e = refl
no_tag (suc n) text e = ap (past_tag (behind_tags n) text) e

-- a tag is left out
pub past_one : (n : ℕ) (text : List ℕ) (x : List ℕ × List ℕ) → tag.read text ≡ Some x → behind_tags (suc n) text ≡ behind_tags n x.1
unfolding behind_tags
past_one n text x e = ap (past_tag (behind_tags n) text) e

none_past : (n : ℕ) (text : List ℕ) → length text ≤ suc n → ((t : List ℕ) → length t ≤ n → tag.read (behind_tags n t) ≡ None) →
    (o : Option (List ℕ × List ℕ)) → tag.read text ≡ o → tag.read (past_tag (behind_tags n) text o) ≡ None
none_past n text le h None e = e
none_past n text le h (Some x) e = h x.1 (omega (arith, le, tag_shortens text x e))

empty_untagged : (text : List ℕ) → length text ≤ 0 → tag.read text ≡ None
unfolding tag
empty_untagged [] h = refl
empty_untagged (b ∷ bs) h = absurd (omega (arith, h))

-- behind all tags there is none
pub none_left : (n : ℕ) (text : List ℕ) → length text ≤ n → tag.read (behind_tags n text) ≡ None
unfolding behind_tags
none_left zero text h = empty_untagged text h
none_left (suc n) text h = none_past n text h (none_left n) (tag.read text) refl

-- a text without its tags has none
pub untagged_twice : (text : List ℕ) → untagged (untagged text) ≡ untagged text
untagged_twice text = no_tag (length (untagged text)) (untagged text) (none_left (length text) text (omega arith))

-- ---- a walk over tags

-- what is left of a text where some tags were passed
abbrev pub Walked : List ℕ → List ℕ → Type 0
Walked text rest = (n : ℕ) × (length rest ≤ n) × (behind_tags n rest ≡ untagged text)

from_map : (o : Option (List ℕ × List ℕ)) → None ≡ option_map (λ x. x.1) o → o ≡ None
from_map None e = refl
from_map (Some x) e = absurd (none-some x.1 e)

to_map : (o : Option (List ℕ × List ℕ)) (r : List ℕ) → Some r ≡ option_map (λ x. x.1) o → (x : List ℕ × List ℕ) × (o ≡ Some x) × (x.1 ≡ r)
to_map None r e = absurd (none-some r (sym e))
to_map (Some x) r e = (x, refl, same_Some x.1 r (sym e))

-- one tag more is passed
pub walked_on : (text rest next : List ℕ) → Walked text rest → Some next ≡ option_map (λ x. x.1) (tag.read rest) →
    Walked text next × (length next < length rest)
walked_on text rest next w e =
    let x = to_map (tag.read rest) next e in
    let less : length next < length rest = omega (arith, tag_shortens rest x.0 x.1, ap length x.2) in
    (by_fuel w.0 w.1 w.2 x.0 x.1 x.2 less, less)
  where
    by_fuel : (n : ℕ) → length rest ≤ n → behind_tags n rest ≡ untagged text → (x : List ℕ × List ℕ) →
        tag.read rest ≡ Some x → x.1 ≡ next → length next < length rest → Walked text next
    by_fuel zero le h x e is less = absurd (omega (arith, le, less))
    by_fuel (suc n) le h x e is less = (n, omega (arith, le, less), ap (behind_tags n) (sym is) ∙ (sym (past_one n rest x e) ∙ h))

-- where no tag comes, the text has lost all its tags
pub walked_through : (text rest : List ℕ) → Walked text rest → None ≡ option_map (λ x. x.1) (tag.read rest) → rest ≡ untagged text
walked_through text rest w e = sym (no_tag w.0 rest (from_map (tag.read rest) e)) ∙ w.2
