-- A document whose places become something else, by its stretches.
use Rattle.std.proofs.Common.{◌≡◌, ℕ, Bool, true, false, cond, List, [], ◌∷◌, ◌++◌, Option, Some, None, refl, sym, ap, subst, ◌∙◌, ◌⊎◌, inl, inr, append_assoc, arith}
use Rattle.std.proofs.{lemmas.Bool.{and_parts, eqb-true, false≢true}, lemmas.Slice.Eq.{bytes_eq-Decides}}
use Rattle.std.specs.{Prelude.{◌==◌, ◌&&◌, not}, Str.{bytes_eq}, Option.{option_map}}
use Rattle.t1_document.specs.{declared.marks.Open.{Open}, declared.marks.Mark.{Mark}, Lines.{breaks}, Marks.{has_mark}, Stretches.{Stretch, stretches_bytes, IsStretch, AreStretches}}
use Rattle.t1_document.specs.{Fonts.{FontText, font_in}, Documents.{Place, Document, open_behind, encloses, next_mark, place_with, place_at, behind_bytes, prepended, at_stretch, document_from}}
use Rattle.t1_document.specs.Rewriting.{is_font, can_stand, can_give, Fate, Stays, Becomes, Gives, at_fate}
use Rattle.t1_document.proofs.{StretchLemmas.{none_in_nothing}, FontLemmas.{Stands, font_stands, no_font}, DocumentSteps.{prepended-prepended}, PlaceLemmas.{is_place}}
use Rattle.t1_document.proofs.Breaks.{SameStart, breaks-same, breaks-slash, same-append, ends_again, mark_starts}

-- ---- a text that can stand

-- what is not so is false
pub not_true : (b : Bool) → not b ≡ true → b ≡ false
not_true true h = absurd cc
not_true false h = refl

font_is : (name text rest : List ℕ) (o : Option FontText) → is_font name text rest o ≡ true → o ≡ Some (record { name = name; text = text; rest = rest })
font_is name text rest None h = absurd cc
font_is name text rest (Some f) h =
    let a = and_parts (bytes_eq f.name name && bytes_eq f.text text) (bytes_eq f.rest rest) h in
    let b = and_parts (bytes_eq f.name name) (bytes_eq f.text text) a.0 in
    let n : f.name ≡ name = (bytes_eq-Decides f.name name).0 b.0 in
    let t : f.text ≡ text = (bytes_eq-Decides f.text text).0 b.1 in
    let r : f.rest ≡ rest = (bytes_eq-Decides f.rest rest).0 a.1 in
    ap (λ (k : List ℕ). Some (record { name = k; text = f.text; rest = f.rest })) n
    ∙ (ap (λ (k : List ℕ). Some (record { name = name; text = k; rest = f.rest })) t
    ∙ ap (λ (k : List ℕ). Some (record { name = name; text = text; rest = k })) r)

-- a text that can stand brings no mark
pub stands_unmarked : (text : List ℕ) (p : Place) → can_stand text p ≡ true → has_mark (text ++ p.rest) ≡ false
stands_unmarked text p h =
    not_true (has_mark (text ++ p.rest)) (and_parts (not (has_mark (text ++ p.rest))) (is_font p.name text p.rest (font_in (text ++ p.rest))) h).0

-- and it is found again
pub stands_font : (text : List ℕ) (p : Place) → can_stand text p ≡ true →
    font_in (text ++ p.rest) ≡ Some (record { name = p.name; text = text; rest = p.rest })
stands_font text p h =
    font_is p.name text p.rest (font_in (text ++ p.rest))
    (and_parts (not (has_mark (text ++ p.rest))) (is_font p.name text p.rest (font_in (text ++ p.rest))) h).1

-- ---- what becomes of places

-- bytes in place of a font text and its rest: they begin with `/`, a line ends behind them, and they have no mark
pub record IsLine (bytes : List ℕ) : Type 0 where
  pub inner : List ℕ
  pub starts : bytes ≡ 47 ∷ inner
  pub ends : breaks bytes (37 ∷ []) ≡ true
  pub unmarked : has_mark bytes ≡ false

-- bytes that can stand there are such
pub given_line : (bytes : List ℕ) → can_give bytes ≡ true → IsLine bytes
given_line [] h = absurd cc
given_line (b ∷ bs) h =
    let most = and_parts (b == 47 && breaks (b ∷ bs) (37 ∷ [])) (not (has_mark (b ∷ bs))) h in
    let both = and_parts (b == 47) (breaks (b ∷ bs) (37 ∷ [])) most.0 in
    record { inner = bs; starts = ap (λ (c : ℕ). c ∷ bs) (eqb-true b 47 both.0); ends = both.1; unmarked = not_true (has_mark (b ∷ bs)) most.1 }

-- what a place becomes fits there
abbrev pub Fits : Fate → Place → Type 0
Fits Stays p = Unit {0}
Fits (Becomes text) p = can_stand text p ≡ true
Fits (Gives bytes) p = (bytes ≡ []) ⊎ IsLine bytes

-- the first of some fates; where there are none, a place stays
abbrev pub first_fate : List Fate → Fate
first_fate [] = Stays
first_fate (f ∷ fs) = f

-- those behind it
abbrev pub fates_left : List Fate → List Fate
fates_left [] = []
fates_left (f ∷ fs) = fs

-- places with these fates, and the bytes behind them
unfoldable pub fated_by : List Fate → List Place → List ℕ → Document
fated_by fs [] last = record { places = []; last = last }
fated_by fs (p ∷ ps) last = at_fate (first_fate fs) p (fated_by (fates_left fs) ps last)

-- each of them fits
abbrev pub AllFit : List Fate → List Place → Type 0
AllFit fs [] = Unit {0}
AllFit fs (p ∷ ps) = Fits (first_fate fs) p × AllFit (fates_left fs) ps

fits_behind : (f : Fate) (b : List ℕ) (p : Place) → Fits f (record p { before = b }) → Fits f p
fits_behind Stays b p h = tt
fits_behind (Becomes text) b p h = h
fits_behind (Gives bytes) b p h = h

-- that holds of the places without the bytes before them
pub all_behind : (fs : List Fate) (b : List ℕ) (d : Document) → AllFit fs (prepended b d).places → AllFit fs d.places
all_behind fs b d all = by_places d.places d.last all
  where
    by_places : (ps : List Place) (last : List ℕ) → AllFit fs (behind_bytes b ps last).places → AllFit fs ps
    by_places [] last h = tt
    by_places (p ∷ ps) last h = (fits_behind (first_fate fs) (b ++ p.before) p h.0, h.1)

-- ---- stretches whose places become something else

-- a stretch whose place has this fate
abbrev pub told : Fate → Place → Stretch → Stretch
told Stays p s = s
told (Becomes text) p s = record s { text = text ++ p.rest }
told (Gives bytes) p s = record s { text = bytes }

-- a stretch that may be a place
abbrev pub told_at : List Fate → Option Place → Stretch → Stretch
told_at fs None s = s
told_at fs (Some p) s = told (first_fate fs) p s

-- the fates that are left behind it
abbrev pub left_at : List Fate → Option Place → List Fate
left_at fs None = fs
left_at fs (Some p) = fates_left fs

-- stretches, where this is open
unfoldable pub retold : Open → List Fate → List Stretch → List Stretch
retold o fs [] = []
retold o fs (s ∷ ss) = told_at fs (place_at o s (next_mark ss)) s ∷ retold (open_behind o s.mark) (left_at fs (place_at o s (next_mark ss))) ss

told_mark : (f : Fate) (p : Place) (s : Stretch) → (told f p s).mark ≡ s.mark
told_mark Stays p s = refl
told_mark (Becomes text) p s = refl
told_mark (Gives bytes) p s = refl

told_line : (f : Fate) (p : Place) (s : Stretch) → (told f p s).line ≡ s.line
told_line Stays p s = refl
told_line (Becomes text) p s = refl
told_line (Gives bytes) p s = refl

-- a stretch keeps its mark
pub mark_same : (fs : List Fate) (q : Option Place) (s : Stretch) → (told_at fs q s).mark ≡ s.mark
mark_same fs None s = refl
mark_same fs (Some p) s = told_mark (first_fate fs) p s

-- and its line
pub line_same : (fs : List Fate) (q : Option Place) (s : Stretch) → (told_at fs q s).line ≡ s.line
line_same fs None s = refl
line_same fs (Some p) s = told_line (first_fate fs) p s

next_same : (o : Open) (fs : List Fate) (ss : List Stretch) → next_mark (retold o fs ss) ≡ next_mark ss
unfolding retold
next_same o fs [] = refl
next_same o fs (s ∷ ss) = ap (λ (m : Mark). Some m) (mark_same fs (place_at o s (next_mark ss)) s)

-- ---- their document

-- a place that becomes a text is read again
place_becomes : (o : Open) (s : Stretch) (next : Option Mark) (p : Place) (text : List ℕ) → place_at o s next ≡ Some p → can_stand text p ≡ true →
    place_at o (record s { text = text ++ p.rest }) next ≡ Some (record p { text = text })
place_becomes o s next p text e h =
    let i = is_place o s next p e in
    ap (λ (b : Bool). cond b (option_map (place_with o (record s { text = text ++ p.rest })) (font_in (text ++ p.rest))) None) i.test
    ∙ (ap (option_map (place_with o (record s { text = text ++ p.rest }))) (stands_font text p h)
    ∙ ap (λ (q : Place). Some (record { before = q.before; kind = q.kind; depth = q.depth; name = p.name; text = text; rest = p.rest })) (sym i.is))

-- a text that begins with `/` doesn't begin with `%`
pub slash_or_percent : (own inner : List ℕ) → 47 ∷ own ≡ 37 ∷ inner → ⊥
slash_or_percent own inner e = omega (arith, heads 47 37 own inner e)
  where
    heads : (a b : ℕ) (xs ys : List ℕ) → a ∷ xs ≡ b ∷ ys → a ≡ b
    heads a b xs ys k = cc

-- so it begins with no font text
pub no_font_in_line : (inner : List ℕ) → font_in (47 ∷ inner) ≡ None
no_font_in_line inner = by_font (font_in (47 ∷ inner)) refl
  where
    by_font : (o : Option FontText) → font_in (47 ∷ inner) ≡ o → o ≡ None
    by_font None e = refl
    by_font (Some f) e =
        let stands = font_stands (47 ∷ inner) f e in
        absurd (slash_or_percent inner (stands.inner ++ f.rest) (stands.whole ∙ ap (λ (t : List ℕ). t ++ f.rest) stands.starts))

given_no_font : (bytes : List ℕ) → (bytes ≡ []) ⊎ IsLine bytes → font_in bytes ≡ None
given_no_font bytes (inl e) = ap font_in e ∙ no_font
given_no_font bytes (inr line) = ap font_in line.starts ∙ no_font_in_line line.inner

-- one that gives way is none
place_gives : (o : Open) (s : Stretch) (next : Option Mark) (bytes : List ℕ) → (bytes ≡ []) ⊎ IsLine bytes →
    place_at o (record s { text = bytes }) next ≡ None
place_gives o s next bytes h = by_test (encloses s.mark next && (o.raw == 0))
  where
    by_test : (b : Bool) → cond b (option_map (place_with o (record s { text = bytes })) (font_in bytes)) None ≡ None
    by_test true = ap (option_map (place_with o (record s { text = bytes }))) (given_no_font bytes h)
    by_test false = refl

-- with other bytes before it a place has the same fate
at_fate-prepended : (f : Fate) (b : List ℕ) (p : Place) (d : Document) →
    at_fate f (record p { before = b ++ p.before }) d ≡ prepended b (at_fate f p d)
at_fate-prepended Stays b p d = refl
at_fate-prepended (Becomes text) b p d = refl
at_fate-prepended (Gives bytes) b p d =
    ap (λ (t : List ℕ). prepended t d) (append_assoc b p.before bytes) ∙ sym (prepended-prepended b (p.before ++ bytes) d)

-- a document with bytes before it has the same fates
pub fated-prepended : (fs : List Fate) (b : List ℕ) (d : Document) →
    fated_by fs (prepended b d).places (prepended b d).last ≡ prepended b (fated_by fs d.places d.last)
unfolding fated_by
fated-prepended fs b d = by_places d.places d.last
  where
    by_places : (ps : List Place) (last : List ℕ) →
        fated_by fs (behind_bytes b ps last).places (behind_bytes b ps last).last ≡ prepended b (fated_by fs ps last)
    by_places [] last = refl
    by_places (p ∷ ps) last = at_fate-prepended (first_fate fs) b p (fated_by (fates_left fs) ps last)

-- one stretch and its document
told_document : (o : Open) (s : Stretch) (next : Option Mark) (p : Place) (d : Document) → place_at o s next ≡ Some p →
    (f : Fate) → Fits f p → at_stretch (told f p s) (place_at o (told f p s) next) d ≡ at_fate f p d
told_document o s next p d e Stays h = ap (λ (q : Option Place). at_stretch s q d) e
told_document o s next p d e (Becomes text) h =
    ap (λ (q : Option Place). at_stretch (record s { text = text ++ p.rest }) q d) (place_becomes o s next p text e h)
told_document o s next p d e (Gives bytes) h =
    let i = is_place o s next p e in
    ap (λ (q : Option Place). at_stretch (record s { text = bytes }) q d) (place_gives o s next bytes h)
    ∙ ap (λ (q : Place). prepended (q.before ++ bytes) d) (sym i.is)

-- where each fate fits, the document of what the stretches became is what the document became
step_document : (o : Open) (s : Stretch) (next : Option Mark) (fs : List Fate) (d e : Document) (q : Option Place) → place_at o s next ≡ q →
    AllFit fs (at_stretch s q d).places → (AllFit (left_at fs q) d.places → e ≡ fated_by (left_at fs q) d.places d.last) →
    at_stretch (told_at fs q s) (place_at o (told_at fs q s) next) e ≡ fated_by fs (at_stretch s q d).places (at_stretch s q d).last
unfolding fated_by
step_document o s next fs d e None is all others =
    ap (λ (q : Option Place). at_stretch s q e) is
    ∙ (ap (prepended (s.line ++ s.text)) (others (all_behind fs (s.line ++ s.text) d all)) ∙ sym (fated-prepended fs (s.line ++ s.text) d))
step_document o s next fs d e (Some p) is all others =
    told_document o s next p e is (first_fate fs) all.0 ∙ ap (at_fate (first_fate fs) p) (others all.1)

-- the document of what stretches become is what their document becomes
pub document_retold : (o : Open) (fs : List Fate) (ss : List Stretch) → AllFit fs (document_from o ss).places →
    document_from o (retold o fs ss) ≡ fated_by fs (document_from o ss).places (document_from o ss).last
unfolding retold document_from fated_by
document_retold o fs [] all = refl
document_retold o fs (s ∷ ss) all =
    let q = place_at o s (next_mark ss) in
    let behind = open_behind o s.mark in
    let rest = retold behind (left_at fs q) ss in
    ap (λ (m : Mark). at_stretch (told_at fs q s) (place_at o (told_at fs q s) (next_mark rest)) (document_from (open_behind o m) rest))
    (mark_same fs q s)
    ∙ (ap (λ (m : Option Mark). at_stretch (told_at fs q s) (place_at o (told_at fs q s) m) (document_from behind rest))
    (next_same behind (left_at fs q) ss)
    ∙ step_document o s (next_mark ss) fs (document_from behind ss) (document_from behind rest) q refl all (document_retold behind (left_at fs q) ss))

-- ---- they are the stretches of a text

-- a place is followed by another stretch
followed : (o : Open) (s : Stretch) (ss : List Stretch) (p : Place) → place_at o s (next_mark ss) ≡ Some p → AreStretches ss →
    (inner : List ℕ) × (stretches_bytes ss ≡ 37 ∷ inner)
followed o s [] p e all = let i = is_place o s None p e in absurd (false≢true i.test)
followed o s (t ∷ ss) p e all =
    let m = mark_starts t.line t.mark all.0.mark in
    ((m.0 ++ t.text) ++ stretches_bytes ss, ap (λ (l : List ℕ). (l ++ t.text) ++ stretches_bytes ss) m.1)

-- the bytes behind a stretch begin as they did
pub start_same : (o : Open) (fs : List Fate) (ss : List Stretch) → AreStretches ss → SameStart (stretches_bytes ss) (stretches_bytes (retold o fs ss))
unfolding retold
start_same o fs [] all = tt
start_same o fs (s ∷ ss) all =
    let q = place_at o s (next_mark ss) in
    let m = mark_starts s.line s.mark all.0.mark in
    let rest = stretches_bytes (retold (open_behind o s.mark) (left_at fs q) ss) in
    let told_text = (told_at fs q s).text in
    subst (λ (l : List ℕ). SameStart ((s.line ++ s.text) ++ stretches_bytes ss) ((l ++ told_text) ++ rest)) (sym (line_same fs q s))
    (subst (λ (l : List ℕ). SameStart ((l ++ s.text) ++ stretches_bytes ss) ((l ++ told_text) ++ rest)) (sym m.1) refl)

-- a stretch before bytes that begin alike
moved : (s : Stretch) (behind other : List ℕ) → IsStretch s behind → SameStart behind other → IsStretch s other
moved s behind other i same = record {
  mark = i.mark;
  whole = i.whole;
  unmarked = i.unmarked;
  line_ends = sym (breaks-same s.line (s.text ++ behind) (s.text ++ other) (same-append s.text behind other same)) ∙ i.line_ends;
  text_ends = sym (breaks-same s.text behind other same) ∙ i.text_ends;
}

-- in place of a font text, before bytes that begin with `%`, a line ends before other such bytes where it ended before that text
given_ends : (x own bytes behind other inner : List ℕ) → behind ≡ 37 ∷ inner → SameStart behind other → (bytes ≡ []) ⊎ IsLine bytes →
    breaks x ((37 ∷ own) ++ behind) ≡ true → breaks x (bytes ++ other) ≡ true
given_ends x own bytes behind [] inner e h g k = absurd (subst (λ (t : List ℕ). SameStart t []) e h)
given_ends x own bytes behind (b ∷ bs) inner e h (inl none) k =
    let alike : SameStart ((37 ∷ own) ++ behind) (bytes ++ b ∷ bs) =
    subst (λ (t : List ℕ). SameStart ((37 ∷ own) ++ behind) (t ++ b ∷ bs)) (sym none) (subst (λ (t : List ℕ). SameStart t (b ∷ bs)) e h) in
    sym (breaks-same x ((37 ∷ own) ++ behind) (bytes ++ b ∷ bs) alike) ∙ k
given_ends x own bytes behind (b ∷ bs) inner e h (inr line) k =
    ap (λ (t : List ℕ). breaks x (t ++ b ∷ bs)) line.starts ∙ (sym (breaks-slash x (own ++ behind) (line.inner ++ b ∷ bs)) ∙ k)

-- a line ends behind it, before bytes that begin as others do which begin with `%`
given_closed : (bytes behind other inner : List ℕ) → behind ≡ 37 ∷ inner → SameStart behind other → (bytes ≡ []) ⊎ IsLine bytes →
    breaks bytes other ≡ true
given_closed bytes behind other inner e same (inl none) = ap (λ (t : List ℕ). breaks t other) none
given_closed bytes behind other inner e same (inr line) =
    sym (breaks-same bytes (37 ∷ []) other (starts other (subst (λ (t : List ℕ). SameStart t other) e same))) ∙ line.ends
  where
    starts : (t : List ℕ) → SameStart (37 ∷ inner) t → SameStart (37 ∷ []) t
    starts [] k = k
    starts (c ∷ cs) k = k

given_unmarked : (bytes : List ℕ) → (bytes ≡ []) ⊎ IsLine bytes → has_mark bytes ≡ false
given_unmarked bytes (inl none) = ap has_mark none ∙ none_in_nothing
given_unmarked bytes (inr line) = line.unmarked

is_told : (s : Stretch) (p : Place) (f : FontText) (behind other inner : List ℕ) → IsStretch s behind → Stands s.text f → f.rest ≡ p.rest →
    behind ≡ 37 ∷ inner → SameStart behind other → (fate : Fate) → Fits fate p → IsStretch (told fate p s) other
is_told s p f behind other inner i stands rest starts same Stays h = moved s behind other i same
is_told s p f behind other inner i stands rest starts same (Becomes text) can =
    let new_stands = font_stands (text ++ p.rest) (record { name = p.name; text = text; rest = p.rest }) (stands_font text p can) in
    let old : s.text ≡ 37 ∷ (stands.inner ++ f.rest) = stands.whole ∙ ap (λ (t : List ℕ). t ++ f.rest) stands.starts in
    let own : text ++ p.rest ≡ 37 ∷ (new_stands.inner ++ p.rest) = ap (λ (t : List ℕ). t ++ p.rest) new_stands.starts in
    let alike : SameStart (s.text ++ behind) ((text ++ p.rest) ++ other) =
    subst (λ (t : List ℕ). SameStart (s.text ++ behind) (t ++ other)) (sym own)
    (subst (λ (t : List ℕ). SameStart (t ++ behind) ((37 ∷ (new_stands.inner ++ p.rest)) ++ other)) (sym old) refl) in
    let was : breaks (f.text ++ p.rest) (37 ∷ inner) ≡ true =
    ap (λ (r : List ℕ). breaks (f.text ++ r) (37 ∷ inner)) (sym rest)
    ∙ (ap (λ (t : List ℕ). breaks t (37 ∷ inner)) (sym stands.whole) ∙ (ap (breaks s.text) (sym starts) ∙ i.text_ends)) in
    record {
      mark = i.mark;
      whole = i.whole;
      unmarked = stands_unmarked text p can;
      line_ends = sym (breaks-same s.line (s.text ++ behind) ((text ++ p.rest) ++ other) alike) ∙ i.line_ends;
      text_ends = sym (breaks-same (text ++ p.rest) behind other same)
          ∙ (ap (breaks (text ++ p.rest)) starts ∙ ends_again f.text text p.rest stands.front 37 inner stands.ends was);
    }
is_told s p f behind other inner i stands rest starts same (Gives bytes) h =
    let old : s.text ≡ 37 ∷ (stands.inner ++ f.rest) = stands.whole ∙ ap (λ (t : List ℕ). t ++ f.rest) stands.starts in
    record {
      mark = i.mark;
      whole = i.whole;
      unmarked = given_unmarked bytes h;
      line_ends = given_ends s.line (stands.inner ++ f.rest) bytes behind other inner starts same h
          (ap (λ (t : List ℕ). breaks s.line (t ++ behind)) (sym old) ∙ i.line_ends);
      text_ends = given_closed bytes behind other inner starts same h;
    }

-- one stretch that may be a place
step_stretch : (o : Open) (fs : List Fate) (s : Stretch) (ss : List Stretch) (d : Document) (other : List ℕ) →
    IsStretch s (stretches_bytes ss) → AreStretches ss → SameStart (stretches_bytes ss) other → (q : Option Place) → place_at o s (next_mark ss) ≡ q →
    AllFit fs (at_stretch s q d).places → IsStretch (told_at fs q s) other
step_stretch o fs s ss d other i each same None e all = moved s (stretches_bytes ss) other i same
step_stretch o fs s ss d other i each same (Some p) e all =
    let is = is_place o s (next_mark ss) p e in
    let next = followed o s ss p e each in
    is_told s p is.font (stretches_bytes ss) other next.0 i (font_stands s.text is.font is.found) (ap (λ (q : Place). q.rest) (sym is.is)) next.1 same
    (first_fate fs) all.0

others_fit : (fs : List Fate) (s : Stretch) (q : Option Place) (d : Document) → AllFit fs (at_stretch s q d).places → AllFit (left_at fs q) d.places
others_fit fs s None d all = all_behind fs (s.line ++ s.text) d all
others_fit fs s (Some p) d all = all.1

-- what stretches of a text become are stretches of a text
pub are_retold : (o : Open) (fs : List Fate) (ss : List Stretch) → AreStretches ss → AllFit fs (document_from o ss).places → AreStretches (retold o fs ss)
unfolding retold document_from
are_retold o fs [] each all = tt
are_retold o fs (s ∷ ss) each all =
    let q = place_at o s (next_mark ss) in
    let behind = open_behind o s.mark in
    let d = document_from behind ss in (
      step_stretch o fs s ss d (stretches_bytes (retold behind (left_at fs q) ss)) each.0 each.1 (start_same behind (left_at fs q) ss each.1) q refl all,
      are_retold behind (left_at fs q) ss each.1 (others_fit fs s q d all),
    )
