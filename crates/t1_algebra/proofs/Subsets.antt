-- The states of a subset of a font, and the join of two subsets: the subset over both sets of names.
use Rattle.std.proofs.Common.{◌≡◌, ℕ, ◌≤◌, Bool, true, false, cond, List, [], get_or, refl, sym, ◌∙◌, ap, subst, Some, None, option_map, unwrap_or, arith, le_trans}
use Rattle.std.proofs.{lemmas.Slice.Eq.{bytes_eq-Decides}, lemmas.List.Folds.{list_any_none}}
use Rattle.t1_font.specs.{Cut.{stub, restrict, restrict_encoding}, FontValue.{FontValue, notdef, weight, Encoding, Word, Codes, names_in}, FontModel.{word_of}, Encodings.{join_encodings, SameKind}}
use Rattle.t1_font.proofs.{Kept.{restrict_light, cut_had}, MapLemmas.{get-map_values, get-retain, total-le, length_total, Some_same, Some_None}}
use Rattle.t1_algebra.specs.Keep.{keep, kept, has, subset, IsOf}
use Rattle.t1_algebra.specs.States.{joined_option, executes, calls_for, is_called, is_sought, state_of_entry, subr_state, is_stub, KeepsLimits, code_state, joined_font, Compatible, Join}
use Rattle.t1_algebra.proofs.{Words.{nat_cmp_total, nat_list_cmp_total, nat_cmp-IsAntisymmetric, Interpreter, Names}, Kept.{keep_part, kept_call, keep_union, kept_union}, Sets.{name_same, cases}}
use Rattle.t1_algebra.proofs.Maps.{get-merged}
use Rattle.std.specs.FinSet as sets
use Rattle.std.specs.FinMap as maps

-- ---- stubs and entries

-- what passes the test of stubs is the stub
pub stub_is : (c : List ℕ) → is_stub c ≡ true → c ≡ stub
stub_is c h = (bytes_eq-Decides c stub).0 h

-- fonts with equal shells and Encodings and with the same Subrs and glyphs are equal
pub same_font : (f g : FontValue) → f.shell ≡ g.shell → f.encoding ≡ g.encoding →
    ((i : ℕ) → maps.get f.subrs i ≡ maps.get g.subrs i) → ((n : List ℕ) → maps.get f.glyphs n ≡ maps.get g.glyphs n) → f ≡ g
same_font f g a b c d =
    let subrs = maps.same_map nat_cmp_total nat_cmp-IsAntisymmetric f.subrs g.subrs c in
    let glyphs = maps.same_map nat_list_cmp_total name_same f.glyphs g.glyphs d in
    λ i. record { shell = a i; encoding = b i; subrs = subrs i; glyphs = glyphs i }

-- Encodings with the same word, or none, and the same names of codes are equal
pub same_encoding : (d e : Encoding) → word_of d ≡ word_of e → ((c : ℕ) → code_state d c ≡ code_state e c) → d ≡ e
same_encoding (Word v) (Word w) h k = ap Word (Some_same h)
same_encoding (Word v) (Codes t) h k = Some_None h
same_encoding (Codes s) (Word w) h k = Some_None (sym h)
same_encoding (Codes s) (Codes t) h k = ap Codes (maps.same_map nat_cmp_total nat_cmp-IsAntisymmetric s t k)

-- the state of a code in the join is the join of its states
pub code_joined : (d e : Encoding) → SameKind d e → (c : ℕ) → code_state (join_encodings d e) c ≡ joined_option (code_state d c) (code_state e c)
code_joined d e h c = grind (cases, h, get-merged nat_cmp_total nat_cmp-IsAntisymmetric {X = List ℕ})

-- a code of a cut Encoding has its name if that is kept
pub get-code : (p : List ℕ → Bool) (e : Encoding) (c : ℕ) →
    code_state (restrict_encoding p e) c ≡ cond (p (unwrap_or (code_state e c) [])) (code_state e c) None
get-code p (Word w) c = grind cases
get-code p (Codes t) c = get-retain nat_cmp_total nat_cmp-IsAntisymmetric t (λ c. p (unwrap_or (maps.get t c) [])) c

module _ {O : Type 0} (m : Interpreter O) (f : FontValue) (a : Names) where
  -- an index of a subset has its entry if that is kept, else a stub
  pub get-subr : (i : ℕ) → maps.get (subset m f a).subrs i ≡ option_map (λ c. cond (sets.contains (kept m f a) i) c stub) (maps.get f.subrs i)
  get-subr i = get-map_values nat_cmp_total nat_cmp-IsAntisymmetric (λ i c. cond (sets.contains (kept m f a) i) c stub) f.subrs i

  -- a name of a subset has its charstring if it is kept
  pub get-glyph : (n : List ℕ) → maps.get (subset m f a).glyphs n ≡ cond (sets.contains (keep m f a) n) (maps.get f.glyphs n) None
  get-glyph n = get-retain nat_list_cmp_total name_same f.glyphs (sets.contains (keep m f a)) n

  -- the Subrs that a kept glyph executes are as in the font
  pub subrs_alike : (n c : List ℕ) → sets.contains (keep m f a) n ≡ true → maps.get f.glyphs n ≡ Some c → (i : ℕ) → sets.contains (m.exec f.subrs c) i ≡ true
      → maps.get (subset m f a).subrs i ≡ maps.get f.subrs i
  subrs_alike n c k is i h = grind (cases, get-subr i, kept_call m f a i n k, is, h)

  -- a kept glyph runs as it does in the font
  pub runs_alike : (n c : List ℕ) → sets.contains (keep m f a) n ≡ true → maps.get f.glyphs n ≡ Some c
      → (m.direct (subset m f a).subrs c ≡ m.direct f.subrs c) × (m.exec (subset m f a).subrs c ≡ m.exec f.subrs c)
  runs_alike n c k is = m.local f.subrs (subset m f a).subrs c (subrs_alike n c k is)

  -- ---- the bottom

  -- no glyph of a subset executes a Subr that is not kept
  not_called : (i : ℕ) → sets.contains (kept m f a) i ≡ false → is_called m (subset m f a) i ≡ false
  not_called i out = list_any_none (λ n. executes m (subset m f a) n i) (names_in (subset m f a).glyphs) (λ k d l.
      let n = get_or (names_in (subset m f a).glyphs) k d in
      grind (cases, get-glyph n, runs_alike n, kept_call m f a i n, out))

  -- no glyph of a subset seeks a name of the font that is not kept
  not_sought : has f notdef ≡ true → IsOf f a → (p : List ℕ) → has f p ≡ true → sets.contains (keep m f a) p ≡ false → is_sought m (subset m f a) p ≡ false
  not_sought base inside p is out = list_any_none (λ n. calls_for m (subset m f a) n p) (names_in (subset m f a).glyphs) (λ k d l.
      let n = get_or (names_in (subset m f a).glyphs) k d in
      grind (cases, get-glyph n, runs_alike n, λ (c : List ℕ). keep_part m f a base inside n c p, is, out))

  -- the state of a Subr in a subset: the bottom if it is not kept
  subr_state_is : (i : ℕ) → subr_state m (subset m f a) i ≡ cond (sets.contains (kept m f a) i) (state_of_entry m (subset m f a) i (maps.get f.subrs i)) None
  subr_state_is i = grind (cases, get-subr i, not_called i)

  -- ---- limits

  -- a subset weighs no more than the font
  pub subset_weight : weight (subset m f a) ≤ weight f
  subset_weight = restrict_light (sets.contains (keep m f a)) (sets.contains (kept m f a)) f

  -- a subset has no more glyphs than the font
  pub subset_glyphs : maps.len (subset m f a).glyphs ≤ maps.len f.glyphs
  subset_glyphs = rw (maps.len-entries, maps.len-entries, ← length_total, ← length_total)
      (total-le nat_list_cmp_total name_same (λ k x. 1) (λ k x. 1) (subset m f a).glyphs f.glyphs
      (λ n v h. (v, cut_had nat_list_cmp_total name_same f.glyphs (sets.contains (keep m f a)) n v h, omega arith)))

module _ {O : Type 0} (m : Interpreter O) (f : FontValue) (base : has f notdef ≡ true) (a : Names) (inside : IsOf f a) where
  -- the state of a Subr that is not kept is the bottom
  pub bottom : (i : ℕ) → sets.contains (kept m f a) i ≡ false → subr_state m (subset m f a) i ≡ None
  bottom i out = grind (cases, subr_state_is m f a i, out)

  -- a name that a subset seeks and lacks is lacking in the font
  pub sought_lacks : (n : List ℕ) → has (subset m f a) n ≡ false → is_sought m (subset m f a) n ≡ true → has f n ≡ false
  sought_lacks n lacks s = grind (cases, get-glyph m f a n, not_sought m f a base inside n)

-- ---- two cuts

module _ (k l : Names) (e : Encoding) where
  -- two cuts of an Encoding are the same word or both tables
  encodings_kind : SameKind (restrict_encoding (sets.contains k) e) (restrict_encoding (sets.contains l) e)
  encodings_kind = grind cases

  -- two cuts of an Encoding join to its cut to the names of both
  encodings_join : join_encodings (restrict_encoding (sets.contains k) e) (restrict_encoding (sets.contains l) e)
      ≡ restrict_encoding (sets.contains (sets.union k l)) e
  encodings_join = same_encoding _ _ (grind cases) (λ c.
      let cut = λ (s : Names). get-code (sets.contains s) e c in
      grind (
        cases,
        code_joined _ _ encodings_kind c,
        cut k,
        cut l,
        cut (sets.union k l),
        sets.contains-union nat_list_cmp_total k l (unwrap_or (code_state e c) []),
      ))

module _ {O : Type 0} (m : Interpreter O) (f g : FontValue) where
  -- the join has the joined state at each index of the first font, or a stub for the bottom
  pub subr_in_join : (i : ℕ) →
      maps.get (joined_font m f g).subrs i ≡ option_map (λ v. unwrap_or (joined_option (subr_state m f i) (subr_state m g i)) stub) (maps.get f.subrs i)
  subr_in_join i = get-map_values nat_cmp_total nat_cmp-IsAntisymmetric (λ i v. unwrap_or (joined_option (subr_state m f i) (subr_state m g i)) stub) f.subrs i

  -- the join has the charstring of either font at each name
  pub glyph_in_join : (n : List ℕ) → maps.get (joined_font m f g).glyphs n ≡ joined_option (maps.get f.glyphs n) (maps.get g.glyphs n)
  glyph_in_join n = get-merged nat_list_cmp_total name_same f.glyphs g.glyphs n

module _ {O : Type 0} (m : Interpreter O) (f : FontValue) (base : has f notdef ≡ true) (a b : Names) (ia : IsOf f a) (ib : IsOf f b) where
  -- the joined font of two subsets is the subset over both sets of names
  pub join_is_subset : joined_font m (subset m f a) (subset m f b) ≡ subset m f (sets.union a b)
  join_is_subset =
      let names = sets.contains (sets.union (keep m f a) (keep m f b)) in
      let indices = sets.contains (sets.union (kept m f a) (kept m f b)) in
      same_font (joined_font m (subset m f a) (subset m f b)) (restrict names indices f) refl (encodings_join (keep m f a) (keep m f b) f.encoding)
      (λ i.
      let either = sets.contains-union nat_cmp_total (kept m f a) (kept m f b) i in
      let stubbed = get-map_values nat_cmp_total nat_cmp-IsAntisymmetric (λ i c. cond (indices i) c stub) f.subrs i in
      grind (cases, subr_in_join m (subset m f a) (subset m f b) i, get-subr m f a i, subr_state_is m f a i, subr_state_is m f b i, stub_is, either, stubbed))
      (λ n.
      let either = sets.contains-union nat_list_cmp_total (keep m f a) (keep m f b) n in
      grind (
        cases,
        glyph_in_join m (subset m f a) (subset m f b) n,
        get-glyph m f a n,
        get-glyph m f b n,
        get-retain nat_list_cmp_total name_same f.glyphs names n,
        either,
      ))
      ∙ (λ i. restrict (sets.contains (sym (keep_union m f a b base ia ib) i)) (sets.contains (sym (kept_union m f a b base ia ib) i)) f)

  -- two subsets of a font are compatible
  subsets_compatible : Compatible m (subset m f a) (subset m f b)
  subsets_compatible = record {
    shells = refl;
    present = λ i. grind (cases, get-subr m f a i, get-subr m f b i);
    kinds = encodings_kind (keep m f a) (keep m f b) f.encoding;
    subrs = λ i. grind (cases, subr_state_is m f a i, subr_state_is m f b i);
    names = λ n. grind (cases, get-glyph m f a n, get-glyph m f b n, not_sought m f a base ia n, not_sought m f b base ib n);
    codes = λ c. grind (cases, get-code (sets.contains (keep m f a)) f.encoding c, get-code (sets.contains (keep m f b)) f.encoding c);
  }

  -- two subsets of a font that is within the limits join
  pub subsets_join : KeepsLimits f → Join m (subset m f a) (subset m f b)
  subsets_join w = record {
    states = subsets_compatible;
    within = subst KeepsLimits (sym join_is_subset)
        (record { weight = le_trans (subset_weight m f (sets.union a b)) w.weight; glyphs = le_trans (subset_glyphs m f (sets.union a b)) w.glyphs });
  }
