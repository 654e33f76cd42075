-- Segments of a PFB file (Technical Note 5040; what ends a file is this project's own choice).
use Rattle.std.proofs.{Common.{suc, cond, eqb, leb, arith, refl, sym, ap, ◌∙◌}, lemmas.Bool.{eqb-true, and_parts, le-leb}, lemmas.List.{length-append}, lemmas.Option.{none-some}}
use Rattle.std.specs.{Prelude.{◌≡◌, ◌⊎◌, ℕ, ◌||◌, ◌&&◌, ◌++◌, Bool, true, false, List, [], ◌∷◌, length, Option, Some, None}, Option.{option_and_then}, Str.{bytes_eq}}
use Rattle.byteorder.specs.Endian.{little_number}
use Rattle.t1_grammar.specs.{Grammar.{Grammar, pure, ◌>>=◌, ◌>>◌, that, count, fixed, before, either}, TableLaws.{Eats, Eats-spelled, Apart}}

-- ---- by their bytes

-- the data of a segment of text or of binary data: they stand behind 128, the kind 1 or 2, and their length in four bytes, least significant first
pub record IsSegment (text piece : List ℕ) : Type 0 where
  pub kind : ℕ
  pub len : List ℕ
  pub parts : text ≡ 128 ∷ kind ∷ (len ++ piece)
  pub text_or_binary : (kind ≡ 1) ⊎ (kind ≡ 2)
  pub four : length len ≡ 4
  pub size : length piece ≡ little_number 4 len

-- a segment stands at the front
pub record SegmentComes (bytes : List ℕ) : Type 0 where
  pub text : List ℕ
  pub piece : List ℕ
  pub rest : List ℕ
  pub parts : bytes ≡ text ++ rest
  pub segment_is : IsSegment text piece

-- segments one after another, and the data of each
abbrev pub AreSegments : List ℕ → List (List ℕ) → Type 0
AreSegments text [] = text ≡ []
AreSegments text (piece ∷ others) = (front back : List ℕ) × (text ≡ front ++ back) × IsSegment front piece × AreSegments back others

-- the segments end: with the bytes, or at 128 and 3, whatever stands behind
abbrev pub EndComes : List ℕ → Type 0
EndComes bytes = (bytes ≡ []) ⊎ ((rest : List ℕ) × (bytes ≡ 128 ∷ 3 ∷ rest))

-- ---- by grammars

-- a segment of text or of binary data: 128, the kind, the length in four bytes, least significant first, and the data
abbrev pub segment : Grammar (List ℕ)
segment = do
  fixed (128 ∷ [])
  that (λ kind. bytes_eq kind (1 ∷ []) || bytes_eq kind (2 ∷ [])) (count 1)
  len ← count 4
  count (little_number 4 len)

-- there are no bytes
abbrev pub is_nil : List ℕ → Bool
is_nil [] = true
is_nil (b ∷ bs) = false

-- the end of the segments: the end of the file, or 128 and 3
abbrev pub end : Grammar (List ℕ)
end = either (do
  before is_nil
  pure []) (fixed (128 ∷ 3 ∷ []))

-- ---- a list of segments has one reading

-- a segment has at least one byte
pub segment_eats : Eats segment
segment_eats = Eats-spelled segment (λ a text rest s. omega (arith, ap length s.3, length-append s.1 s.2, ap length s.4.0.0, s.4.0.1))

skip_none : {A B : Type 0} (f : A → Option B) (t : Bool) (y : A) → f y ≡ None → option_and_then f (cond t (Some y) None) ≡ None
skip_none f true y e = e
skip_none f false y e = refl

not_three : (a : ℕ) (bytes : List ℕ) → segment.read (a ∷ 3 ∷ bytes) ≡ None
not_three a bytes =
    let one : leb 1 (suc (suc (length bytes))) ≡ true = le-leb _ _ (omega arith) in
    let two : leb 1 (suc (length bytes)) ≡ true = le-leb _ _ (omega arith) in
    let kind : (that (λ k. bytes_eq k (1 ∷ []) || bytes_eq k (2 ∷ [])) (count 1)).read (3 ∷ bytes) ≡ None = rw two refl in
    rw one (skip_none _ (eqb 128 a && true) (a ∷ [], 3 ∷ bytes) (rw kind refl))

test_false : (a b : ℕ) (bytes : List ℕ) (x : List ℕ × List ℕ) →
    segment.read (a ∷ b ∷ bytes) ≡ Some x → (t : Bool) → (eqb 128 a && (eqb 3 b && true)) ≡ t → t ≡ false
test_false a b bytes x e true h =
    absurd (none-some x (sym (not_three a bytes) ∙ (ap (λ k. segment.read (a ∷ k ∷ bytes)) (eqb-true 3 b (and_parts _ _ (and_parts _ _ h).1).0) ∙ e)))
test_false a b bytes x e false h = refl

-- no segment begins where an end stands
pub segment_apart : Apart segment end
segment_apart [] x e = absurd cc
segment_apart (a ∷ []) x e = refl
segment_apart (a ∷ b ∷ bytes) x e =
    let one : leb 2 (suc (suc (length bytes))) ≡ true = le-leb _ _ (omega arith) in
    let two = test_false a b bytes x e _ refl in
    rw (one, two) refl
