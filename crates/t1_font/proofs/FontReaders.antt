-- What the readers of a font answer.
use Rattle.std.proofs.{Common.{◌≡◌, ℕ, ◌<◌, Bool, true, false, cond, ltb, List, Option, Some, None, refl, sym, ap, ◌∙◌}, lemmas.Bool.{lt-ltb}}
use Rattle.std.specs.{FinMap.{get, get-entries, find}, Ordering.{nat_cmp}}
use Rattle.t1_font.specs.{FontValue.{FontValue, Shell, SubrsShell, SparseArray, declared_count}, FontModel.{subr_at}, IsFont.{IsFont, SubrsFit}}

-- an index with an entry is declared
below_of : (s : Shell) (o : Option SubrsShell) (m : SparseArray) → SubrsFit s o m → (i : ℕ) (c : List ℕ) → get m i ≡ Some c → i < declared_count o
below_of s None m fit i c e = absurd (none_some (sym (get-entries m i ∙ ap (find nat_cmp i) fit.0) ∙ e))
  where
    none_some : {c : List ℕ} → ◌≡◌ {A = Option (List ℕ)} None (Some c) → ⊥
    none_some e = cc
below_of s (Some t) m fit i c e = fit.below i c e

masked : (b : Bool) (o : Option (List ℕ)) → ((c : List ℕ) → o ≡ Some c → b ≡ true) → cond b o None ≡ o
masked true o h = refl
masked false None h = refl
masked false (Some c) h = cc_of (h c refl)
  where
    cc_of : false ≡ true → None ≡ Some c
    cc_of e = cc

-- the Subrs that an interpreter sees are the entries
pub subrs_seen : (f : FontValue) → IsFont f → (i : ℕ) → subr_at f i ≡ get f.subrs i
subrs_seen f is i = masked (ltb i (declared_count f.shell.subrs)) (get f.subrs i)
    (λ c e. lt-ltb i (declared_count f.shell.subrs) (below_of f.shell f.shell.subrs f.subrs is.subrs i c e))

-- the map of Subrs that an interpreter sees is the font's
pub all_seen : (f : FontValue) → IsFont f → subr_at f ≡ get f.subrs
all_seen f is = λ i. λ k. subrs_seen f is k i
