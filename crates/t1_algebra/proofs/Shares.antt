-- Fonts share what they have to exactly if no part differs, and the first part that differs is the same in both orders.
use Rattle.std.proofs.{Common.{◌≡◌, ◌↔◌, option_map, ℕ, Bool, true, not, map, sym, ◌∙◌, ap, true≢false, Option, Some, None, is_some, nat_cmp, arith}, lemmas.Bool.{not-false, and_parts}}
use Rattle.std.proofs.lemmas.Simd.{map-map}
use Rattle.std.specs.List.{find}
use Rattle.t1_font.specs.{FontValue.{FontValue, SubrsShell, SparseArray, declared_count}, FontModel.{word_of}, Maps.{map_values}, Encodings.{SameKind}}
use Rattle.t1_font.proofs.MapLemmas.{Some_None, get-map_values, entries-map_values}
use Rattle.t1_algebra.specs.Shared.{Shared, shared_of, ShellPart, all_parts, same_number, same_bool, same_word, same_words, same_part, differing_part}
use Rattle.t1_algebra.proofs.{Words.{list_any, eq_by_cmp, nat_cmp_total, nat_list_cmp_total, nat_cmp-IsAntisymmetric, same_bytes}, Searching.{none_passes}, Sets.{name_same, tied, itself, cases}}
use Rattle.std.specs.FinMap as maps

-- ---- each test decides

module _ {X : Type 0} (t : X → X → Bool) where
  -- a test passes exactly if both values are equal
  pub record Decides : Type 0 where
    pub so : (x y : X) → t x y ≡ true → x ≡ y
    pub self : (x : X) → t x x ≡ true

  -- the test is the same in both orders
  pub swaps : Decides → (x y : X) → t x y ≡ t y x
  swaps d x y = grind (cases, d.so x y, d.so y x, d.self x)

pub bytes_decide : Decides same_bytes
bytes_decide = record { so = tied nat_list_cmp_total name_same; self = itself nat_list_cmp_total name_same }

pub numbers_decide : Decides same_number
numbers_decide = record { so = tied nat_cmp_total nat_cmp-IsAntisymmetric; self = itself nat_cmp_total nat_cmp-IsAntisymmetric }

pub bools_decide : Decides same_bool
bools_decide = record { so = λ a b h. grind cases; self = λ a. grind cases }

-- tables of Subrs are the same if both are there or neither, they declare as many, and their words are the same
subrs_so : (s t : Option SubrsShell) → is_some s ≡ is_some t → declared_count s ≡ declared_count t → same_words s t ≡ true → s ≡ t
subrs_so s t p d w = grind (cases, p, d, w, bytes_decide.so)

words_decide : Decides same_word
words_decide = record { so = λ v w h. grind (cases, bytes_decide.so); self = λ v. grind (cases, bytes_decide.self) }

-- ---- what is shared

-- what fonts share is the same if no part differs
pub shared_so : (s t : Shared) → differing_part s t ≡ None → s ≡ t
shared_so s t h =
    let parts = none_passes (λ part. not (same_part s t part)) all_parts h in
    grind (arith, parts, not-false, and_parts, bytes_decide.so, numbers_decide.so, bools_decide.so, words_decide.so, subrs_so s.0.subrs t.0.subrs)

-- no part of what is the same differs
pub no_part_differs : (s t : Shared) → s ≡ t → differing_part s t ≡ None
no_part_differs s t e = ap (differing_part s) (sym e) ∙ simp (bytes_decide.self, numbers_decide.self, bools_decide.self, words_decide.self)

-- ---- both orders

-- a part is the same in both orders
pub part_back : (s t : Shared) (part : ShellPart) → same_part s t part ≡ same_part t s part
part_back s t part =
    grind (cases, swaps same_bytes bytes_decide, swaps same_word words_decide, swaps same_number numbers_decide, swaps same_bool bools_decide)

-- the first part that differs is the same in both orders
pub differing_back : (s t : Shared) → differing_part s t ≡ differing_part t s
differing_back s t = λ i. find (λ part. not (part_back s t part i)) all_parts

-- ---- what two fonts share

-- the shells are equal, the same Subrs are present, and the Encodings are the same word or both tables
pub record Shares (f g : FontValue) : Type 0 where
  pub shells : f.shell ≡ g.shell
  pub present : (i : ℕ) → maps.contains_key f.subrs i ≡ maps.contains_key g.subrs i
  pub kinds : SameKind f.encoding g.encoding

keys_of : (m : SparseArray) → maps.keys m ≡ maps.keys {X = ℕ} (map_values (λ i c. 0) m)
keys_of m =
    sym (ap (map (λ e. e.0)) (entries-map_values nat_cmp_total nat_cmp-IsAntisymmetric (λ i c. 0) m) ∙ map-map (λ e. e.0) (λ e. (e.0, 0)) (maps.entries m))

-- maps that are present at the same indices have the same keys
pub same_indices : (m n : SparseArray) → ((i : ℕ) → maps.contains_key m i ≡ maps.contains_key n i) → maps.keys m ≡ maps.keys n
same_indices m n h = keys_of m
    ∙ ap (λ (s : maps.FinMap nat_cmp ℕ). maps.keys s) (maps.same_map nat_cmp_total nat_cmp-IsAntisymmetric _ _ (λ i.
    grind (
      cases,
      h i,
      get-map_values nat_cmp_total nat_cmp-IsAntisymmetric {Y = ℕ} (λ i c. 0) m i,
      get-map_values nat_cmp_total nat_cmp-IsAntisymmetric {Y = ℕ} (λ i c. 0) n i,
    )))
    ∙ sym (keys_of n)

-- fonts share what they have to exactly if they have the same shared value
pub sharing : (f g : FontValue) → Shares f g ↔ (shared_of f ≡ shared_of g)
sharing f g = (
  λ c. let words : word_of f.encoding ≡ word_of g.encoding = grind (cases, c.kinds) in λ i. (c.shells i, (words i, same_indices f.subrs g.subrs c.present i)),
  λ h. record {
    shells = ap (λ s. s.0) h;
    present = λ i. maps.contains_key-keys f.subrs i ∙ ap (λ (s : Shared). list_any (eq_by_cmp nat_cmp i) s.1.1) h ∙ sym (maps.contains_key-keys g.subrs i);
    kinds = grind (cases, ap (λ (s : Shared). s.1.0) h);
  },
)

-- no part differs exactly if all is the same
pub parts_test : {X : Type 0} (part : X → ShellPart) (s t : Shared) (r : Option X) (b : Bool) →
    is_some r ≡ not b → option_map part r ≡ differing_part s t → (b ≡ true) ↔ (s ≡ t)
parts_test part s t None b n e = (λ h. shared_so s t (sym e), λ h. not-false b (sym n))
parts_test part s t (Some x) b n e = (λ h. absurd (true≢false (n ∙ ap not h)), λ h. Some_None (e ∙ no_part_differs s t h))
