-- One more entry of a table that is held.
use Rattle.std.proofs.{Common.{◌≡◌, Ordering, ℕ, ◌||◌, Bool, true, false, List, [], ◌∷◌, ◌++◌, Some, refl, sym, ap, ◌∙◌}, lemmas.List.{map_push}}
use Rattle.std.specs.{Prelude.{unwrap_or, filter}, Str.{bytes_eq}, Ordering.{nat_cmp}, Cmp.{IsTotalOrder, nat_cmp_total}, Cmp.Lexicographic.{nat_list_cmp_total}}
use Rattle.std.specs.{FinSet.{IsAntisymmetric, slice_cmp-IsAntisymmetric, nat_cmp-IsAntisymmetric}, FinMap.{FinMap, insert, empty, from_sorted}}
use Rattle.t1_bytes.specs.Cipher.{plain_of}
use Rattle.t1_font.specs.FontValue.{SparseArray, CharStrings, name_cmp, notdef}
use Rattle.t1_text.specs.{Entries.{map_of, names_of, has_name}, Entry.{Entry, plain_entries}, Subrs.{Subr}, Glyphs.{Glyph}}
use Rattle.t1_font.specs.{Held.{first_words, HoldsSubrs, HoldsGlyphs, names_notdef}, Gathering.{without_notdef}}
use Rattle.t1_text.proofs.MapLaws.{map_of-append, map_of-nil, entries-map_of}

-- no Subrs are held at first
pub none_numbered : empty ≡ map_of {R = nat_cmp} []
none_numbered = sym (map_of-nil nat_cmp_total nat_cmp-IsAntisymmetric)

-- no glyphs are held at first
pub none_named : empty ≡ map_of {R = name_cmp} []
none_named = sym (map_of-nil nat_list_cmp_total (slice_cmp-IsAntisymmetric nat_cmp-IsAntisymmetric))

-- one more put
pub one_code_more : (es : List (ℕ × List ℕ)) (e : ℕ × List ℕ) (codes next : SparseArray) → next ≡ insert codes e.0 e.1 → codes ≡ map_of es →
    next ≡ map_of (es ++ e ∷ [])
one_code_more es e codes next put same = put ∙ (ap (λ m. insert m e.0 e.1) same ∙ sym (map_of-append nat_cmp_total nat_cmp-IsAntisymmetric es e))

-- the names among the last puts
pub names_put : (es : List (ℕ × List ℕ)) (codes : SparseArray) → codes ≡ map_of es → without_notdef codes ≡ names_of es
names_put es codes same =
    ap without_notdef same ∙ ap (λ last. from_sorted {R = nat_cmp} (filter has_name last)) (entries-map_of nat_cmp_total nat_cmp-IsAntisymmetric es)

-- the words of the first entry stay
pub first_more : {K : Type 0} (es : List (Entry K)) (e : Entry K) → first_words (es ++ e ∷ []) ≡ Some (unwrap_or (first_words es) (e.body.rd, e.body.phrase))
first_more [] e = refl
first_more (f ∷ es) e = refl

module _ {K : Type 0} {R : K → K → Ordering} (o : IsTotalOrder R) (same : IsAntisymmetric R) where
  -- one more entry in the map of those before it
  entries_more : (iv : ℕ) (es : List (Entry K)) (e : Entry K) →
      map_of {R = R} (plain_entries iv (es ++ e ∷ [])) ≡ insert (map_of (plain_entries iv es)) e.key (plain_of iv e.body.bytes)
  entries_more iv es e = ap (map_of {R = R}) (map_push (λ (f : Entry K). (f.key, plain_of iv f.body.bytes)) es e)
      ∙ map_of-append o same (plain_entries iv es) (e.key, plain_of iv e.body.bytes)

  entry_more : (iv : ℕ) (bodies next : FinMap R (List ℕ)) (es : List (Entry K)) (e : Entry K) →
      next ≡ insert bodies e.key (plain_of iv e.body.bytes) → bodies ≡ map_of (plain_entries iv es) → next ≡ map_of (plain_entries iv (es ++ e ∷ []))
  entry_more iv bodies next es e put held = put ∙ (ap (λ m. insert m e.key (plain_of iv e.body.bytes)) held ∙ sym (entries_more iv es e))

-- one more glyph
pub one_glyph_more : (iv : ℕ) (bodies next : CharStrings) (es : List Glyph) (e : Glyph) →
    next ≡ insert bodies e.key (plain_of iv e.body.bytes) → HoldsGlyphs iv bodies es → HoldsGlyphs iv next (es ++ e ∷ [])
one_glyph_more = entry_more nat_list_cmp_total (slice_cmp-IsAntisymmetric nat_cmp-IsAntisymmetric)

-- one Subr more
pub one_subr_more : (declared iv : ℕ) (bodies next : SparseArray) (es : List Subr) (e : Subr) →
    next ≡ insert bodies e.key (plain_of iv e.body.bytes) → HoldsSubrs declared iv bodies es → HoldsSubrs declared iv next (es ++ e ∷ [])
one_subr_more declared iv bodies next es e put h few = entry_more nat_cmp_total nat_cmp-IsAntisymmetric iv bodies next es e put (h few)

-- `.notdef` is among the names if it was, or if the one more is it
pub notdef_more : (es : List Glyph) (e : Glyph) → names_notdef (es ++ e ∷ []) ≡ (names_notdef es || bytes_eq notdef e.key)
notdef_more [] e = by_last (bytes_eq notdef e.key)
  where
    by_last : (b : Bool) → (b || false) ≡ b
    by_last true = refl
    by_last false = refl
notdef_more (g ∷ gs) e = ap (λ b. bytes_eq notdef g.key || b) (notdef_more gs e) ∙ regroup (bytes_eq notdef g.key)
  where
    regroup : (b : Bool) → (b || (names_notdef gs || bytes_eq notdef e.key)) ≡ ((b || names_notdef gs) || bytes_eq notdef e.key)
    regroup true = refl
    regroup false = refl
