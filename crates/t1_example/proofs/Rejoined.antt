-- What two fonts rejoin to draws as they do.
use Rattle.std.proofs.Common.{◌≡◌, ℕ, sym, ◌∙◌, subst, List, [], ◌∷◌, Ok}
use Rattle.t1_bytes.specs.{declared.form.Form.{Form}, Laws.{AreBytes}}
use Rattle.t1_font.specs.{FontValue.{FontValue}, Canon.{canon}}
use Rattle.t1_cmd.specs.{Files.{Values, value_before, values_from, OfFiles}, Fonts.{mended_input}, Rejoins.{RejoinsTo}, Cuts.{AllDrawIn}}
use Rattle.t1_cmd.proofs.{CutLemmas.{rejoined_any}, MendLemmas.{mended_font}}

-- what two files say
both_said : (first second : List ℕ) (f g : FontValue) → mended_input first ≡ Ok f → mended_input second ≡ Ok g →
    values_from mended_input 0 (first ∷ second ∷ []) ≡ Ok (f ∷ g ∷ [])
both_said first second f g e k = λ i. value_before 0 (e i) (value_before 1 (k i) (Ok []))

-- each glyph of both fonts draws in what they rejoin to as it did
pub drawn_so : {V : Type 0} (view : V → List ℕ) (form : Form) (first second : List ℕ) (result : V) → AreBytes first → AreBytes second →
    OfFiles mended_input (RejoinsTo form) (first ∷ second ∷ []) (Ok (view result)) →
    (f g : FontValue) → mended_input first ≡ Ok f → mended_input second ≡ Ok g →
    (j : FontValue) × (view result ≡ canon j form) × AllDrawIn (f ∷ g ∷ []) j
drawn_so view form first second result b c d f g e k =
    let fonts : d.0 ≡ f ∷ g ∷ [] = same d.0 (sym d.1 ∙ both_said first second f g e k) in
    let all = rejoined_any form (f ∷ g ∷ []) (view result)
    ((mended_font first f b e).0, ((mended_font second g c k).0, tt))
    (subst (λ (fs : List FontValue). RejoinsTo form fs (Ok (view result))) fonts d.2) in
    (all.font, all.file, all.draws)
  where
    same : (fs : List FontValue) → ◌≡◌ {A = Values FontValue} (Ok fs) (Ok (f ∷ g ∷ [])) → fs ≡ f ∷ g ∷ []
    same fs e = cc
