-- Fonts that have the shell of one font.
use Rattle.std.{proofs.Common.{◌≡◌, ℕ, Bool, List, [], ◌∷◌, refl, sym, ◌∙◌}, specs.List.{AllByRecursion}}
use Rattle.t1_font.specs.{Cut.{restrict, restrict_encoding}, FontValue.{FontValue, Encoding, Word, Codes}, Parts.{HasShellOf}, Encodings.{SameKind}}

cut_kind : (p : List ℕ → Bool) (e : Encoding) → SameKind (restrict_encoding p e) e
cut_kind p (Word w) = refl
cut_kind p (Codes m) = tt

-- a cut has the shell of its font
pub cut_shell : (p : List ℕ → Bool) (s : ℕ → Bool) (f : FontValue) → HasShellOf (restrict p s f) f
cut_shell p s f = record { shell = refl; kind = cut_kind p f.encoding }

kind_of_both : (d e x : Encoding) → SameKind d x → SameKind e x → SameKind d e
kind_of_both (Word v) (Word w) (Word x) h k = h ∙ sym k
kind_of_both (Word v) (Word w) (Codes x) h k = absurd h
kind_of_both (Word v) (Codes n) (Word x) h k = absurd k
kind_of_both (Word v) (Codes n) (Codes x) h k = absurd h
kind_of_both (Codes m) (Word w) (Word x) h k = absurd h
kind_of_both (Codes m) (Word w) (Codes x) h k = absurd k
kind_of_both (Codes m) (Codes n) x h k = tt

module _ (f whole : FontValue) (h : HasShellOf f whole) where
  pub parts_shells : (gs : List FontValue) → AllByRecursion (λ g. HasShellOf g whole) gs → AllByRecursion (λ g. f.shell ≡ g.shell) gs
  parts_shells [] k = tt
  parts_shells (g ∷ gs) k = (h.shell ∙ sym k.0.shell, parts_shells gs k.1)

  pub parts_kinds : (gs : List FontValue) → AllByRecursion (λ g. HasShellOf g whole) gs → AllByRecursion (λ g. SameKind f.encoding g.encoding) gs
  parts_kinds [] k = tt
  parts_kinds (g ∷ gs) k = (kind_of_both f.encoding g.encoding whole.encoding h.kind k.0.kind, parts_kinds gs k.1)
