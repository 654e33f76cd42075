-- The texts of markers that were read, and where no marker stands.
use Rattle.std.proofs.Common.{◌≡◌, ℕ, suc, ◌≤◌, inl, inr, ◌⊎◌, Bool, true, eqb, not, ◌&&◌, List, [], ◌∷◌, ◌++◌, length, drop, get_or, refl, sym, ap, subst, ◌∙◌, append_assoc, arith, true≢false}
use Rattle.std.proofs.{lemmas.Slice.Eq.{bytes_eq-Decides}, lemmas.Bool.{cases_Bool, eqb-true}, lemmas.List.{append-nil, length-append}}
use Rattle.std.specs.{Prelude.{codes}, List.{AllByRecursion}}
use Rattle.t1_grammar.specs.Grammar.{Grammar, fixed, NotAtFront, NoneIn, Lacks}
use Rattle.t1_bytes.specs.{White.{is_white, has_bytes, gap}, Eexec.{eexec_marker, blank_comes}}
use Rattle.t1_text.specs.{Markers.{encoding_marker, subrs_marker, chars_marker}, FontWords.{NoMarker}}

-- ---- two divisions of a text

-- the first of two parts ends within the other, or goes beyond it
pub meet : (a b c d : List ℕ) → a ++ b ≡ c ++ d →
    ((z : List ℕ) × (c ≡ a ++ z) × (b ≡ z ++ d)) ⊎ ((x : ℕ) × (z : List ℕ) × (a ≡ c ++ (x ∷ z)) × (d ≡ x ∷ (z ++ b)))
meet [] b c d e = inl (c, refl, e)
meet (x ∷ a) b [] d e = inr (x, a, refl, sym e)
meet (x ∷ a) b (y ∷ c) d e =
    let first : x ≡ y = ap (λ (u : List ℕ). get_or u 0 0) e in
    let more : a ++ b ≡ c ++ d = ap (λ (u : List ℕ). drop 1 u) e in
    elim (meet a b c d more) [
      | inl s ↦ inl (s.0, (λ i. sym first i ∷ s.1 i), s.2)
      | inr s ↦ inr (s.0, s.1, (λ i. first i ∷ s.2 i), s.3)
    ]

-- ---- where no marker stands

-- a marker that stands in no place of a text stands in none of its front
pub NoneIn-left : {A : Type 0} (g : Grammar A) (a b c : List ℕ) → NoneIn g (a ++ b) c → NoneIn g a (b ++ c)
NoneIn-left g [] b c h = tt
NoneIn-left g (x ∷ a) b c h = (subst (λ (u : List ℕ). NotAtFront g (x ∷ u)) (append_assoc a b c) h.0, NoneIn-left g a b c h.1)

-- a marker that stands in no place of a text stands in none of its end
pub NoneIn-right : {A : Type 0} (g : Grammar A) (a b c : List ℕ) → NoneIn g (a ++ b) c → NoneIn g b c
NoneIn-right g [] b c h = h
NoneIn-right g (x ∷ a) b c h = NoneIn-right g a b c h.1

-- a text that lacks a marker has it at no place
pub lacks_none : {A : Type 0} (g : Grammar A) (bytes : List ℕ) → Lacks g bytes → NoneIn g bytes []
lacks_none g [] lacks = tt
lacks_none g (b ∷ bs) lacks = (subst (λ (u : List ℕ). NotAtFront g (b ∷ u)) (sym (append-nil bs)) (lacks 0), lacks_none g bs (λ k. lacks (suc k)))

-- no marker stands in a text, if none does in one that is at least as long, and a slash stands behind it
pub before_slash : {A : Type 0} (g : Grammar A) → ((front r s : List ℕ) → NoneIn g front (47 ∷ r) → NoneIn g front (47 ∷ s)) →
    (a m b c : List ℕ) → a ++ (47 ∷ m) ≡ b ++ c → length a ≤ length b → NoneIn g b c → NoMarker g a
before_slash g moves a m b c e long none = elim (meet a (47 ∷ m) b c e) [
  | inl s ↦
      let inner : NoneIn g a (s.0 ++ c) = NoneIn-left g a s.0 c (subst (λ (u : List ℕ). NoneIn g u c) s.1 none) in
      moves a m [] (subst (λ (u : List ℕ). NoneIn g a u) (sym s.2) inner)
  | inr s ↦ absurd (omega (arith, long, ap length s.2, length-append b (s.0 ∷ s.1)))
]

-- ---- the markers' texts

-- what a fixed text spells is itself
pub fixed_text : (w a text rest : List ℕ) → (fixed w).Spells a text rest → text ≡ w
fixed_text w a text rest s = s.0.0 ∙ sym ((bytes_eq-Decides w a).0 s.1)

-- it begins with a slash
abbrev pub Slash : List ℕ → Type 0
Slash own = (r : List ℕ) × (own ≡ 47 ∷ r)

slash : (w own front back : List ℕ) → own ≡ front ++ back → front ≡ 47 ∷ w → Slash own
slash w own front back e f = (w ++ back, e ∙ ap (λ (u : List ℕ). u ++ back) f)

-- the marker of the Encoding begins with a slash
pub encoding_slash : (own rest : List ℕ) → encoding_marker.Spells tt own rest → Slash own
unfolding encoding_marker
encoding_slash own rest s = slash (codes "Encoding") own s.1 s.2 s.3 (fixed_text (codes "/Encoding") s.0 s.1 (s.2 ++ rest) s.4)

-- the marker of Subrs begins with a slash
pub subrs_slash : (declared : ℕ) (own rest : List ℕ) → subrs_marker.Spells declared own rest → Slash own
unfolding subrs_marker
subrs_slash declared own rest s = slash (codes "Subrs") own s.1 s.2 s.3 (fixed_text (codes "/Subrs") s.0 s.1 (s.2 ++ rest) s.4)

-- the marker of CharStrings begins with a slash
pub chars_slash : (own rest : List ℕ) → chars_marker.Spells tt own rest → Slash own
unfolding chars_marker
chars_slash own rest s = slash (codes "CharStrings") own s.1 s.2 s.3 (fixed_text (codes "/CharStrings") s.0 s.1 (s.2 ++ rest) s.4)

-- `currentfile`, white space, `eexec`, before a blank
pub record IsMarker (own after : List ℕ) : Type 0 where
  pub between : List ℕ
  pub parts : own ≡ codes "currentfile" ++ (between ++ codes "eexec")
  pub white : AllByRecursion (λ b. is_white b ≡ true) between
  pub some : has_bytes between ≡ true
  pub blank : blank_comes after ≡ true

-- the marker of eexec has these parts
pub marker_is : (marker own after : List ℕ) → eexec_marker.Spells marker own after → IsMarker own after
unfolding eexec_marker gap
marker_is marker own after s =
    let last : s.5.5.5.2 ≡ [] = s.5.5.5.5.0 in
    let none : s.5.5.5.1 ≡ [] = s.5.5.5.4.0 in
    let first : s.1 ≡ codes "currentfile" = fixed_text (codes "currentfile") s.0 s.1 (s.2 ++ after) s.4 in
    let second : s.5.5.1 ≡ codes "eexec" = fixed_text (codes "eexec") s.5.5.0 s.5.5.1 (s.5.5.2 ++ after) s.5.5.4 in
    let parts : own ≡ codes "currentfile" ++ (s.5.0 ++ (codes "eexec" ++ ([] ++ []))) =
    s.3 ∙ (λ i. first i ++ (s.5.3 ∙ (λ j. s.5.4.0.0 j ++ (s.5.5.3 ∙ (λ k. second k ++ (s.5.5.5.3 ∙ (λ l. none l ++ last l)) k)) j)) i) in
    record {
      between = s.5.0;
      parts = parts;
      white = s.5.4.0.1;
      some = s.5.4.1;
      blank = subst (λ (u : List ℕ). blank_comes (u ++ after) ≡ true) last s.5.5.5.4.1;
    }

-- ---- no slash and no `d` stands in that

-- neither a slash nor a `d`
abbrev pub is_plain : ℕ → Bool
is_plain b = not (eqb 47 b) && not (eqb 100 b)

abbrev ArePlain : List ℕ → Type 0
ArePlain text = AllByRecursion (λ b. is_plain b ≡ true) text

white_plain : (b : ℕ) → is_white b ≡ true → is_plain b ≡ true
white_plain b w = elim (cases_Bool (eqb 47 b)) [
  | inl t ↦ let k : is_white 47 ≡ true = subst (λ (n : ℕ). is_white n ≡ true) (sym (eqb-true 47 b t)) w in absurd (true≢false (sym k))
  | inr t ↦ elim (cases_Bool (eqb 100 b)) [
    | inl u ↦ let k : is_white 100 ≡ true = subst (λ (n : ℕ). is_white n ≡ true) (sym (eqb-true 100 b u)) w in absurd (true≢false (sym k))
    | inr u ↦ rw (t, u) refl
  ]
]

whites_plain : (text : List ℕ) → AllByRecursion (λ b. is_white b ≡ true) text → ArePlain text
whites_plain [] h = tt
whites_plain (b ∷ text) h = (white_plain b h.0, whites_plain text h.1)

plain_both : (a b : List ℕ) → ArePlain a → ArePlain b → ArePlain (a ++ b)
plain_both [] b h k = k
plain_both (x ∷ a) b h k = (h.0, plain_both a b h.1 k)

-- the end of such a text is such a text
pub plain_right : (a b : List ℕ) → ArePlain (a ++ b) → ArePlain b
plain_right [] b h = h
plain_right (x ∷ a) b h = plain_right a b h.1

-- the marker of eexec is such a text
pub marker_plain : (own after : List ℕ) → IsMarker own after → ArePlain own
marker_plain own after m = subst ArePlain (sym m.parts) (plain_both (codes "currentfile") (m.between ++ codes "eexec")
    (refl, (refl, (refl, (refl, (refl, (refl, (refl, (refl, (refl, (refl, (refl, tt)))))))))))
    (plain_both m.between (codes "eexec") (whites_plain m.between m.white) (refl, (refl, (refl, (refl, (refl, tt)))))))
