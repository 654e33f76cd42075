-- A font cut down is a font, and so are the entries of two.
use Rattle.std.proofs.Common.{◌≡◌, ℕ, ◌≤◌, Ordering, Bool, true, false, cond, List, [], ◌∷◌, map, length, Option, Some, None, is_some, Ok, refl, sym, ap, subst, ◌∙◌, arith, true≢false, unwrap_or}
use Rattle.std.proofs.{lemmas.Slice.Eq.{bytes_eq-Decides}, lemmas.Bool.{leb-true}}
use Rattle.std.specs.{Option.{option_map}, Str.{bytes_eq}, Ordering.{nat_cmp}, Cmp.{IsTotalOrder, nat_cmp_total}}
use Rattle.std.specs.{FinMap.{FinMap, find, get, get-entries, entries, len, len-entries, retain_keys, IsAntisymmetric, nat_cmp-IsAntisymmetric}, Cmp.Lexicographic.{nat_list_cmp_total}}
use Rattle.t1_font.specs.FontValue.{FontValue, Shell, SubrsShell, Encoding, Word, Codes, SparseArray, notdef, total, subr_weight, glyph_weight, weight, count_limit, weight_limit}
use Rattle.t1_text.specs.{Markers.{len_iv}, FontWords.{IsWord, IsCharstring}}
use Rattle.t1_font.specs.{Pieces.{iv_of}, Spelling.{IsLenIV, said, unsaid}, Cut.{stub, restrict, restrict_encoding}, Maps.{map_values, merged}, Joins.{joined_subr, join_parts}}
use Rattle.t1_font.specs.{Encodings.{join_encodings, SameKind}, IsFont.{IsFont, SubrsFit, SubrWords, AreGlyphs, IsCode, IsEncoding}}
use Rattle.t1_font.proofs.{MapLemmas.{get-map_values, entries-map_values, get-retain, get-merged, total-le, length_total, joined, Some_same, Some_None}, Spelled.{iv_is}}
use Rattle.t1_font.proofs.canonical.FontAgain.{name_same}

-- lenIV is at most 255
pub iv_small : (private : List ℕ) (iv : ℕ) → (iv_of private).read ≡ Ok iv → iv ≤ 255
unfolding len_iv
iv_small private iv h = by_said (iv_is private iv h)
  where
    by_said : IsLenIV private iv → iv ≤ 255
    by_said (said front after rest a b) = leb-true iv 255 b.2.5.1
    by_said (unsaid l e) = omega (arith, e)

from_cond : {X : Type 0} (b : Bool) (o : Option X) (v : X) → cond b o None ≡ Some v → o ≡ Some v
from_cond true o v h = h
from_cond false o v h = Some_None (sym h)

-- what a key of a map has that was cut to some keys, it had
pub cut_had : {K X : Type 0} {R : K → K → Ordering} (o : IsTotalOrder R) (same : IsAntisymmetric R) (m : FinMap R X) (p : K → Bool) (q : K) (v : X) →
    get (retain_keys m p) q ≡ Some v → get m q ≡ Some v
cut_had o same m p q v h = from_cond (p q) (get m q) v (sym (get-retain o same m p q) ∙ h)

from_mapped : {X Y : Type 0} (f : X → Y) (o : Option X) (w : Y) → option_map f o ≡ Some w → (v : X) × (o ≡ Some v) × (w ≡ f v)
from_mapped f None w h = Some_None (sym h)
from_mapped f (Some v) w h = (v, refl, sym (Some_same h))

-- what a key of a map with other values has was made of what it had
mapped_had : {K X Y : Type 0} {R : K → K → Ordering} (o : IsTotalOrder R) (same : IsAntisymmetric R) (f : K → X → Y) (m : FinMap R X) (q : K) (w : Y) →
    get (map_values f m) q ≡ Some w → (v : X) × (get m q ≡ Some v) × (w ≡ f q v)
mapped_had o same f m q w h = from_mapped (f q) (get m q) w (sym (get-map_values o same f m q) ∙ h)

words_kept : (f : ℕ → List ℕ → List ℕ) (es : List (ℕ × List ℕ)) (s : SubrsShell) → SubrWords es s → SubrWords (map (λ e. (e.0, f e.0 e.1)) es) s
words_kept f [] s h = h
words_kept f (e ∷ es) s h = h

-- subroutines with other charstrings, which have room for their lead bytes
subrs_kept : (s : Shell) (o : Option SubrsShell) (m : SparseArray) (f : ℕ → List ℕ → List ℕ) → SubrsFit s o m →
    ((i : ℕ) (c : List ℕ) → get m i ≡ Some c → IsCharstring s.len_iv c → IsCharstring s.len_iv (f i c)) → SubrsFit s o (map_values f m)
subrs_kept s None m f h k = (entries-map_values nat_cmp_total nat_cmp-IsAntisymmetric f m ∙ ap (map (λ e. (e.0, f e.0 e.1))) h.0, h.1)
subrs_kept s (Some t) m f h k = record {
  declared = h.declared;
  below = λ i c e. let v = mapped_had nat_cmp_total nat_cmp-IsAntisymmetric f m i c e in h.below i v.0 v.1;
  bodies =
      λ i c e. let v = mapped_had nat_cmp_total nat_cmp-IsAntisymmetric f m i c e in subst (IsCharstring s.len_iv) (sym v.2) (k i v.0 v.1 (h.bodies i v.0 v.1));
  words = subst (λ (es : List (ℕ × List ℕ)). SubrWords es t)
      (sym (entries-map_values nat_cmp_total nat_cmp-IsAntisymmetric f m)) (words_kept f (entries m) t h.words);
  closing = h.closing;
}

-- ---- a restriction

stub_fits : (s : Shell) (i : ℕ) (b : Bool) (c : List ℕ) → s.len_iv ≤ 255 → IsCharstring s.len_iv c → IsCharstring s.len_iv (cond b c stub)
stub_fits s i true c iv h = h
stub_fits s i false c iv h = record { short = omega arith; bytes = (omega arith, tt) }

encoding_cut : (names : List ℕ → Bool) (e : Encoding) → IsEncoding e → IsEncoding (restrict_encoding names e)
encoding_cut names (Word w) h = h
encoding_cut names (Codes m) h = λ c n e. h c n (cut_had nat_cmp_total nat_cmp-IsAntisymmetric m (λ c. names (unwrap_or (get m c) [])) c n e)

stub_light : (iv i : ℕ) (b : Bool) (c : List ℕ) → subr_weight iv i (cond b c stub) ≤ subr_weight iv i c
stub_light iv i true c = omega arith
stub_light iv i false c = omega arith

subrs_light : (f : FontValue) (subrs : ℕ → Bool) →
    total (subr_weight f.shell.len_iv) (entries (map_values (λ i c. cond (subrs i) c stub) f.subrs)) ≤ total (subr_weight f.shell.len_iv) (entries f.subrs)
subrs_light f subrs = total-le nat_cmp_total nat_cmp-IsAntisymmetric (subr_weight f.shell.len_iv)
    (subr_weight f.shell.len_iv) (map_values (λ i c. cond (subrs i) c stub) f.subrs) f.subrs (λ i c e.
    let v = mapped_had nat_cmp_total nat_cmp-IsAntisymmetric (λ i c. cond (subrs i) c stub) f.subrs i c e in
    (v.0, v.1, subst (λ (d : List ℕ). subr_weight f.shell.len_iv i d ≤ subr_weight f.shell.len_iv i v.0) (sym v.2) (stub_light f.shell.len_iv i (subrs i) v.0)))

glyphs_light : (f : FontValue) (names : List ℕ → Bool) (w : List ℕ → List ℕ → ℕ) → total w (entries (retain_keys f.glyphs names)) ≤ total w (entries f.glyphs)
glyphs_light f names w = total-le nat_list_cmp_total name_same w w (retain_keys f.glyphs names) f.glyphs
    (λ n c e. (c, cut_had nat_list_cmp_total name_same f.glyphs names n c e, omega arith))

-- a restriction weighs no more
pub restrict_light : (names : List ℕ → Bool) (subrs : ℕ → Bool) (f : FontValue) → weight (restrict names subrs f) ≤ weight f
restrict_light names subrs f =
    let a = subrs_light f subrs in
    let b = glyphs_light f names (glyph_weight f.shell.len_iv) in
    omega arith

notdef_kept : (b : Bool) (o : Option (List ℕ)) → b ≡ true → is_some o ≡ true → is_some (cond b o None) ≡ true
notdef_kept true o h k = k
notdef_kept false o h k = absurd (true≢false (sym h))

pub restrict_is_font : (names : List ℕ → Bool) (subrs : ℕ → Bool) (f : FontValue) → IsFont f → names notdef ≡ true → IsFont (restrict names subrs f)
restrict_is_font names subrs f h has =
    let iv = iv_small f.shell.private f.shell.len_iv h.private.iv in
    let fewer : length (entries (retain_keys f.glyphs names)) ≤ length (entries f.glyphs) =
    omega (arith, glyphs_light f names (λ k x. 1), length_total (entries f.glyphs), length_total (entries (retain_keys f.glyphs names))) in
    record {
      clear = h.clear;
      private = h.private;
      texts = h.texts;
      encoding = encoding_cut names f.encoding h.encoding;
      subrs = subrs_kept f.shell f.shell.subrs f.subrs (λ i c. cond (subrs i) c stub) h.subrs (λ i c e k. stub_fits f.shell i (subrs i) c iv k);
      glyphs = record {
        rd = h.glyphs.rd;
        def = h.glyphs.def;
        names = λ n c e. h.glyphs.names n c (cut_had nat_list_cmp_total name_same f.glyphs names n c e);
        bodies = λ n c e. h.glyphs.bodies n c (cut_had nat_list_cmp_total name_same f.glyphs names n c e);
        notdef =
            ap is_some (get-retain nat_list_cmp_total name_same f.glyphs names notdef) ∙ notdef_kept (names notdef) (get f.glyphs notdef) has h.glyphs.notdef;
        few = omega (arith, len-entries (retain_keys f.glyphs names), len-entries f.glyphs, h.glyphs.few);
      };
      light = omega (arith, restrict_light names subrs f, h.light);
    }

-- ---- a join

from_joined : {X : Type 0} (P : X → Type 0) (x y : Option X) (v : X) → joined x y ≡ Some v → ((w : X) → x ≡ Some w → P w) → ((w : X) → y ≡ Some w → P w) → P v
from_joined P None y v h f g = g v h
from_joined P (Some w) y v h f g = f v h

-- what holds of the entries of two maps holds of the entries of both
pub merged_has : {K X : Type 0} {R : K → K → Ordering} (o : IsTotalOrder R) (same : IsAntisymmetric R) (P : K → X → Type 0) (m n : FinMap R X) →
    ((q : K) (v : X) → get m q ≡ Some v → P q v) → ((q : K) (v : X) → get n q ≡ Some v → P q v) → (q : K) (v : X) → get (merged m n) q ≡ Some v → P q v
merged_has o same P m n f g q v h = from_joined (P q) (get m q) (get n q) v (sym (get-merged o same m n q) ∙ h) (f q) (g q)

encodings_joined : (d e : Encoding) → SameKind d e → IsEncoding d → IsEncoding e → IsEncoding (join_encodings d e)
encodings_joined (Word v) (Word w) s h k = h
encodings_joined (Word v) (Codes n) s h k = absurd s
encodings_joined (Codes m) (Word w) s h k = absurd s
encodings_joined (Codes m) (Codes n) s h k = merged_has nat_cmp_total nat_cmp-IsAntisymmetric IsCode m n h k

other_fits : (iv : ℕ) (b : Bool) (c : List ℕ) (o : Option (List ℕ)) → IsCharstring iv c → ((d : List ℕ) → o ≡ Some d → IsCharstring iv d) →
    IsCharstring iv (cond b (unwrap_or o c) c)
other_fits iv true c None h k = h
other_fits iv true c (Some d) h k = k d refl
other_fits iv false c o h k = h

subrs_fit : (s : Shell) (o : Option SubrsShell) (m : SparseArray) → SubrsFit s o m → (i : ℕ) (c : List ℕ) → get m i ≡ Some c → IsCharstring s.len_iv c
subrs_fit s None m h i c e = Some_None (sym e ∙ get-entries m i ∙ ap (find nat_cmp i) h.0)
subrs_fit s (Some t) m h i c e = h.bodies i c e

notdef_joined : (x y : Option (List ℕ)) → is_some x ≡ true → is_some (joined x y) ≡ true
notdef_joined None y h = absurd (true≢false (sym h))
notdef_joined (Some v) y h = refl

pub join_is_font : (f g : FontValue) → IsFont f → IsFont g → f.shell ≡ g.shell → SameKind f.encoding g.encoding →
    len (merged f.glyphs g.glyphs) ≤ count_limit → weight (join_parts f g) ≤ weight_limit → IsFont (join_parts f g)
join_is_font f g h k shells kinds few light =
    let subrs : SubrsFit f.shell f.shell.subrs g.subrs = subst (λ (s : Shell). SubrsFit s s.subrs g.subrs) (sym shells) k.subrs in
    let glyphs : AreGlyphs f.shell g.glyphs = subst (λ (s : Shell). AreGlyphs s g.glyphs) (sym shells) k.glyphs in
    record {
      clear = h.clear;
      private = h.private;
      texts = h.texts;
      encoding = encodings_joined f.encoding g.encoding kinds h.encoding k.encoding;
      subrs = subrs_kept f.shell f.shell.subrs f.subrs (λ i c. joined_subr c (get g.subrs i)) h.subrs
          (λ i c e fits. other_fits f.shell.len_iv (bytes_eq c stub) c (get g.subrs i) fits (subrs_fit f.shell f.shell.subrs g.subrs subrs i));
      glyphs = record {
        rd = h.glyphs.rd;
        def = h.glyphs.def;
        names = merged_has nat_list_cmp_total name_same (λ n c. IsWord 127 n) f.glyphs g.glyphs h.glyphs.names glyphs.names;
        bodies = merged_has nat_list_cmp_total name_same (λ n c. IsCharstring f.shell.len_iv c) f.glyphs g.glyphs h.glyphs.bodies glyphs.bodies;
        notdef = ap is_some (get-merged nat_list_cmp_total name_same f.glyphs g.glyphs notdef)
            ∙ notdef_joined (get f.glyphs notdef) (get g.glyphs notdef) h.glyphs.notdef;
        few = few;
      };
      light = light;
    }

-- a stub weighs no more than what takes its place
joined_heavy : (iv i : ℕ) (c : List ℕ) (o : Option (List ℕ)) → subr_weight iv i c ≤ subr_weight iv i (joined_subr c o)
joined_heavy iv i c o = by_test (bytes_eq c stub) refl o
  where
    by_test : (b : Bool) → bytes_eq c stub ≡ b → (o : Option (List ℕ)) → subr_weight iv i c ≤ subr_weight iv i (cond b (unwrap_or o c) c)
    by_test false t o = omega arith
    by_test true t None = omega arith
    by_test true t (Some d) = let one : length c ≡ 1 = ap length ((bytes_eq-Decides c stub).0 t) in omega (arith, one)

-- a join weighs no less than its first font
pub join_heavy : (f g : FontValue) → weight f ≤ weight (join_parts f g)
join_heavy f g =
    let iv = f.shell.len_iv in
    let h : ℕ → List ℕ → List ℕ = λ i c. joined_subr c (get g.subrs i) in
    let subrs : total (subr_weight iv) (entries f.subrs) ≤ total (subr_weight iv) (entries (map_values h f.subrs)) =
    total-le nat_cmp_total nat_cmp-IsAntisymmetric (subr_weight iv) (subr_weight iv) f.subrs (map_values h f.subrs) (λ i c e.
    (h i c, get-map_values nat_cmp_total nat_cmp-IsAntisymmetric h f.subrs i ∙ ap (option_map (h i)) e, joined_heavy iv i c (get g.subrs i))) in
    let glyphs : total (glyph_weight iv) (entries f.glyphs) ≤ total (glyph_weight iv) (entries (merged f.glyphs g.glyphs)) =
    total-le nat_list_cmp_total name_same (glyph_weight iv) (glyph_weight iv) f.glyphs (merged f.glyphs g.glyphs) (λ n c e.
    (c, get-merged nat_list_cmp_total name_same f.glyphs g.glyphs n ∙ ap (λ x. joined x (get g.glyphs n)) e, omega arith)) in
    omega (arith, subrs, glyphs)
