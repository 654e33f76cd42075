-- How the engine that rejoins fonts ends.
use Rattle.std.{proofs.Common.{◌≡◌, ℕ, arith, List, [], ◌∷◌, map, inl, inr, Option, Some, None, Result, Ok, Err, refl, sym, ap, subst, ◌∙◌}, specs.List.{AllByRecursion}}
use Rattle.t1_bytes.specs.declared.form.Form.{Form}
use Rattle.t1_font.specs.{FontValue.{FontValue}, Canon.{canon}, Normalizing.{normalized_shells, normalized}, Filling.{AreLight, AnyHeavy}, IsFont.{IsFont}}
use Rattle.t1_font.proofs.normal_fonts.NormalTexts.{normal_shorter}
use Rattle.t1_algebra.specs.{Lacks.{Lack, first_lack}, Merges.{ComesTo}, Profile.{profile}, Groupings.{Merges}, Rejoins.{with_normal_texts}}
use Rattle.t1_algebra.proofs.{Orders.{one_result}, rejoining.Normalized.{merging_fonts_are_normal}}
use Rattle.t1_join.{specs.Groupings.{Grouping, one, two, map_grouping, from_left}, proofs.OrderLemmas.{leaves_from_left}}
use Rattle.t1_cmd.specs.{declared.faults.Reason.{Reason}, declared.faults.Reason.TheVariants.{Memory}, Mergers.{MergesToFile}, Rejoins.{RejoinsUnless, RejoinsTo, RejoinsWhatMerges}}
use Rattle.t1_cmd.proofs.MergeLemmas.{merges_apart}
use Rattle.t1_subset.proofs.Rejoining.{light_or_heavy}

-- ---- fonts of which none lacks a Subr

-- fonts that rejoin lack nothing
unlacking : (o : Option Lack) (form : Form) (fs : List FontValue) (text : List ℕ) → RejoinsUnless o form fs (Ok text) →
    (o ≡ None) × RejoinsUnless None form fs (Ok text)
unlacking None form fs text h = (refl, h)
unlacking (Some lack) form fs text h = let never : Ok text ≡ Err _ = h in absurd cc

pub rejoins_unlacking : (form : Form) (fs : List FontValue) (text : List ℕ) → RejoinsTo form fs (Ok text) →
    (first_lack (normalized_shells fs) ≡ None) × RejoinsUnless None form fs (Ok text)
rejoins_unlacking form fs text h = unlacking (first_lack (normalized_shells fs)) form fs text h

-- where no font lacks a Subr, this is what they rejoin to
pub with_no_lack : (form : Form) (fs : List FontValue) (answer : Result (List ℕ) Reason) → first_lack (normalized_shells fs) ≡ None →
    RejoinsUnless None form fs answer → RejoinsTo form fs answer
with_no_lack form fs answer none h = subst (λ (o : Option Lack). RejoinsUnless o form fs answer) (sym none) h

pub has_no_lack : (form : Form) (fs : List FontValue) (answer : Result (List ℕ) Reason) → first_lack (normalized_shells fs) ≡ None →
    RejoinsTo form fs answer → RejoinsUnless None form fs answer
has_no_lack form fs answer none h = subst (λ (o : Option Lack). RejoinsUnless o form fs answer) none h

-- fonts that rejoin are refused for want of memory alone
apart_so : (form : Form) (fs : List FontValue) (text : List ℕ) (r : Reason) → RejoinsUnless None form fs (Ok text) →
    RejoinsUnless None form fs (Err r) → r ≡ Memory
apart_so form fs text r (inl a) (inl b) = merges_apart form (normalized fs) text r a.1 b.1
apart_so form fs text r (inl a) (inr b) = absurd (light_or_heavy (normalized fs) a.0 b.0)
apart_so form fs text r (inr a) k = absurd a.1

pub rejoins_apart : (form : Form) (fs : List FontValue) (text : List ℕ) (r : Reason) → RejoinsTo form fs (Ok text) → RejoinsTo form fs (Err r) → r ≡ Memory
rejoins_apart form fs text r h k =
    let un = rejoins_unlacking form fs text h in apart_so form fs text r un.1 (has_no_lack form fs (Err r) un.0 k)

-- ---- fonts that merge

pub all_light : (fs : List FontValue) → AllByRecursion IsFont fs → AreLight fs
all_light [] h = tt
all_light (f ∷ fs) h = (h.0.light, all_light fs h.1)

-- what fonts of a list that merge from left to right are made of
abbrev normal_list : List FontValue → List FontValue
normal_list fs = map with_normal_texts fs

-- a list is grouped from left to right as what is made of each is
grouped : (t : Grouping FontValue) (fs : List FontValue) →
    map_grouping with_normal_texts (from_left t fs) ≡ from_left (map_grouping with_normal_texts t) (normal_list fs)
grouped t [] = refl
grouped t (f ∷ fs) = grouped (two t (one f)) fs

-- fonts that merge lack nothing, are normalized by their texts alone, and come to what they came to, with normalized texts
normal_merged : (fs : List FontValue) (j : FontValue) → ComesTo fs j →
    (first_lack (normalized_shells fs) ≡ None) × (normalized fs ≡ normal_list fs) × ComesTo (normal_list fs) (with_normal_texts j)
normal_merged [] j h = absurd h
normal_merged (f ∷ fs) j h =
    let all = merging_fonts_are_normal (from_left (one f) fs) j h in
    let same = leaves_from_left (one f) fs in (
      subst (λ (gs : List FontValue). first_lack (normalized_shells gs) ≡ None) same all.0,
      subst (λ (gs : List FontValue). normalized gs ≡ normal_list gs) same all.1,
      subst (λ (t : Grouping FontValue). Merges profile t (with_normal_texts j)) (grouped (one f) fs) all.2,
    )

-- they are within the weight limit
normal_light : (fs : List FontValue) → AllByRecursion IsFont fs → AreLight (normal_list fs)
normal_light [] h = tt
normal_light (f ∷ fs) h = (omega (arith, normal_shorter f.shell, h.0.light), normal_light fs h.1)

comes_to_one : (fs : List FontValue) (j k : FontValue) → ComesTo fs j → ComesTo fs k → j ≡ k
comes_to_one [] j k h i = absurd h
comes_to_one (f ∷ fs) j k h i = one_result profile (from_left (one f) fs) j k h i

one_answer : (form : Form) (fs : List FontValue) (text : List ℕ) → MergesToFile form fs (Ok text) → (answer : Result (List ℕ) Reason)
    → MergesToFile form fs answer → answer ≡ Ok text
one_answer form fs text h (Ok other) k = ap Ok (k.2 ∙ (ap (λ (j : FontValue). canon j form) (comes_to_one fs k.0 h.0 k.1 h.1) ∙ sym h.2))
one_answer form fs text h (Err r) k =
    let never : MergesToFile form fs (Err Memory) = subst (λ (r : Reason). MergesToFile form fs (Err r)) (merges_apart form fs text r h k) k in absurd never

rejoined_so : (form : Form) (fs gs : List FontValue) (text : List ℕ) → normalized fs ≡ gs → AreLight gs → MergesToFile form gs (Ok text)
    → (answer : Result (List ℕ) Reason) → RejoinsUnless None form fs answer → answer ≡ Ok text
rejoined_so form fs gs text is light h answer (inl a) = one_answer form gs text h answer (subst (λ (gs : List FontValue). MergesToFile form gs answer) is a.1)
rejoined_so form fs gs text is light h answer (inr a) = absurd (light_or_heavy gs light (subst AnyHeavy is a.0))

-- fonts that merge rejoin to the file of what they merge to, with normalized texts, and to nothing else
pub rejoins_what_merges : RejoinsWhatMerges
rejoins_what_merges form fs j fonts comes =
    let m = normal_merged fs j comes in
    let light = normal_light fs fonts in
    let text = canon (with_normal_texts j) form in
    let h : MergesToFile form (normal_list fs) (Ok text) = (with_normal_texts j, m.2, refl) in
    let both : RejoinsUnless None form fs (Ok text) =
    inl (subst AreLight (sym m.1) light, subst (λ (gs : List FontValue). MergesToFile form gs (Ok text)) (sym m.1) h) in (
      with_no_lack form fs (Ok text) m.0 both,
      λ answer k. rejoined_so form fs (normal_list fs) text m.1 light h answer (has_no_lack form fs answer m.0 k),
    )
