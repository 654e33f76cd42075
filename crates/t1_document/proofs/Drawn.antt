-- What stays where fonts are normalized, get a name and rejoin.
use Rattle.std.proofs.Common.{◌≡◌, ℕ, ◌≤◌, arith, Bool, true, false, cond, inl, refl, sym, ◌∙◌, ap, subst, List, [], ◌∷◌, ◌++◌, ◌-◌, length, take, drop, map, Option, Some, None, Ok}
use Rattle.std.proofs.{lemmas.Bool.{and_parts}, lemmas.Option.{none-some, same_Some}, lemmas.List.{take-append-drop}}
use Rattle.std.specs.{Prelude.{is_some, nat_le}, List.{AllByRecursion}, Option.{option_map}}
use Rattle.t1_grammar.specs.Grammar.{first}
use Rattle.t1_bytes.specs.Laws.{AreBytes}
use Rattle.t1_font.specs.FontValue.{FontValue, Shell, SubrsShell, SparseArray, Encoding, Word, Codes, declared_count, count_limit, weight, weight_limit}
use Rattle.t1_font.specs.{IsFont.{IsFont, SubrsFit}, Renewing.{Renewed, RenewedAndNamed}}
use Rattle.t1_font.specs.{Encodings.{SameKind, join_encodings}, NormalTexts.{both_fit}, FontBoxes.{font_with}}
use Rattle.t1_text.specs.{Words.{is_regular}, Rewriting.{parted}, Tags.{name_marker, name_in}, Boxes.{Box, joined_box}}
use Rattle.t1_font.specs.{Filling.{AreLight}, Normalizing.{normal, filled, largest_count, indices_of_all, each_normal, normalized_shells, filled_all}}
use Rattle.t1_font.specs.FontNames.{name_between, text_named, clear_named, font_named, can_be_named, named, normalized_named}
use Rattle.t1_font.proofs.{ByteLemmas.{has_bytes}, normal_fonts.Normalized.{normal_is_font, filled_is_font}}
use Rattle.t1_text.proofs.Bytes.{AreBytes-append, bytes_left, bytes_right}
use Rattle.t1_font.proofs.{normal_fonts.Boxes.{by_cases, boxed_are_fonts}, normal_fonts.BoxFonts.{fitting_is_font}, normal_fonts.Renewed.{name_renews, stay_renewed}}
use Rattle.t1_join.{specs.Groupings.{Grouping, one, two, from_left, leaves}, proofs.OrderLemmas.{leaves_from_left, each_leaf}}
use Rattle.t1_algebra.specs.{Keep.{has}, Profile.{profile}, Alike.{DrawsAlike}, States.{code_state, Agree, joined_option, Compatible, joined_font}, Groupings.{Merges}, Merges.{ComesTo, DrawsAll}}
use Rattle.t1_algebra.specs.{Normalized.{EachBeside, AllDrawAlike}, Laws.{AnswersAlike}}
use Rattle.t1_algebra.proofs.{Drawings.{answers_alike}, Fonts.{merges_are_fonts}, ManyMerges.{alike_trans}, Subsets.{code_joined}}
use Rattle.t1_algebra.proofs.rejoining.{Unlacking.{SameEntries, all_unlacking}, Renewed.{count_renews, box_renews, shells_stay}}
use Rattle.t1_subset.{specs.Rejoins.{Rejoin}, proofs.Answered.{draws_all}}
use Rattle.t1_document.specs.JoinLaws.{StaysIn}
use Rattle.std.specs.FinMap as maps

-- ---- glyphs

-- each glyph of f draws in j as it did, over the maps of both and as calls see them
abbrev pub AllDrawn : FontValue → FontValue → Type 0
AllDrawn j f = (n : List ℕ) → has f n ≡ true → DrawsAlike f j n × AnswersAlike f j n

-- what draws in fonts as it did, and in j as in these, draws in j as it did
pub drawn_through : (fs es : List FontValue) (j : FontValue) → AllByRecursion IsFont fs → IsFont j → EachBeside AllDrawAlike fs es → DrawsAll es j →
    AllByRecursion (AllDrawn j) fs
drawn_through [] [] j h joined s d = tt
drawn_through [] (e ∷ es) j h joined s d = absurd s
drawn_through (f ∷ fs) [] j h joined s d = absurd s
drawn_through (f ∷ fs) (e ∷ es) j h joined s d = (
  λ n there.
      let alike = alike_trans f e j n (s.0 n) (d.0 n (ap is_some (s.0 n).charstring ∙ there)) in
      (alike, answers_alike f j h.0 joined n alike),
  drawn_through fs es j h.1 joined s.1 d.1,
)

-- ---- fonts that are normalized

few_declared : (s : Shell) (o : Option SubrsShell) (m : SparseArray) → SubrsFit s o m → declared_count o ≤ count_limit
few_declared s None m h = omega arith
few_declared s (Some k) m h = h.declared

largest_few : (fs : List FontValue) → AllByRecursion IsFont fs → largest_count fs ≤ count_limit
largest_few [] h = omega arith
largest_few (f ∷ fs) h = omega (arith, few_declared f.shell f.shell.subrs f.subrs h.0.subrs, largest_few fs h.1)

each_font : (n : ℕ) (fs : List FontValue) → n ≤ count_limit → AllByRecursion IsFont fs → AllByRecursion IsFont (map (normal n) fs)
each_font n [] le h = tt
each_font n (f ∷ fs) le h = (normal_is_font n f le h.0, each_font n fs le h.1)

-- fonts with normalized texts and one box are fonts
pub shells_are_fonts : (fs : List FontValue) → AllByRecursion IsFont fs → AllByRecursion IsFont (normalized_shells fs)
shells_are_fonts fs h = boxed_are_fonts (each_normal fs) (each_font (largest_count fs) fs (largest_few fs h) h)

-- so are they with stubs, where they are within the weight limit
pub each_filled : (indices : List ℕ) (fs : List FontValue) → AllByRecursion IsFont fs → AreLight (map (filled indices) fs) →
    AllByRecursion IsFont (map (filled indices) fs)
each_filled indices [] h fit = tt
each_filled indices (f ∷ fs) h fit = (filled_is_font indices f h.0 fit.0, each_filled indices fs h.1 fit.1)

-- what fonts come to is a font
pub comes_to_font : (fs : List FontValue) (j : FontValue) → AllByRecursion IsFont fs → ComesTo fs j → IsFont j
comes_to_font [] j h c = absurd c
comes_to_font (f ∷ fs) j h c =
    let g = from_left (one f) fs in
    merges_are_fonts profile g j c (each_leaf IsFont g (subst (AllByRecursion IsFont) (sym (leaves_from_left (one f) fs)) h))

-- ---- names

-- a text with another name is bytes
bytes_named : (name text : List ℕ) → AreBytes name → AreBytes text → AreBytes (text_named name text)
bytes_named name text n t = by_read ((first name_marker).read text) refl
  where
    by_read : (o : Option ((List ℕ × List ℕ) × List ℕ)) → (first name_marker).read text ≡ o → AreBytes (name_between name text
        (option_map (λ x. (take (length text - length x.1) text, (parted is_regular x.1).1)) o))
    by_read None e = t
    by_read (Some x) e =
        let taken = (first name_marker).takes text x e in
        let behind : AreBytes x.1 = bytes_right taken.0 x.1 (subst AreBytes taken.1 t) in
        let k = length text - length x.1 in
        AreBytes-append (take k text ++ name) (parted is_regular x.1).1
        (AreBytes-append (take k text) name (bytes_left (take k text) (drop k text) (subst AreBytes (sym (take-append-drop k text)) t)) n)
        (bytes_right (parted is_regular x.1).0 (parted is_regular x.1).1 (subst AreBytes (sym (take-append-drop _ x.1)) behind))

-- the name that a text has is bytes
pub name_bytes : (text name : List ℕ) → AreBytes text → name_in text ≡ Some name → AreBytes name
name_bytes text name t e = by_read ((first name_marker).read text) refl e
  where
    by_read : (o : Option ((List ℕ × List ℕ) × List ℕ)) → (first name_marker).read text ≡ o → option_map (λ x. (parted is_regular x.1).0) o ≡ Some name →
        AreBytes name
    by_read None h k = absurd (none-some name k)
    by_read (Some x) h k =
        let taken = (first name_marker).takes text x h in
        let behind : AreBytes x.1 = bytes_right taken.0 x.1 (subst AreBytes taken.1 t) in
        subst AreBytes (same_Some (parted is_regular x.1).0 name k)
        (bytes_left (parted is_regular x.1).0 (parted is_regular x.1).1 (subst AreBytes (sym (take-append-drop _ x.1)) behind))

named_is_font : (name : List ℕ) (f : FontValue) → AreBytes name → IsFont f → IsFont (named name f)
named_is_font name f n h = by_test (can_be_named name f) refl
  where
    by_test : (b : Bool) → can_be_named name f ≡ b → IsFont (cond b (font_named name f) f)
    by_test false e = h
    by_test true e =
        let y = clear_named name f.shell in
        let tests = and_parts (both_fit y) (nat_le (weight (font_named name f)) weight_limit) e in
        let bytes = has_bytes f h in
        fitting_is_font f y tests.0 tests.1 (bytes_named name f.shell.head n bytes.texts.head) bytes.texts.clear_tail h

pub each_named : (name : List ℕ) (fs : List FontValue) → AreBytes name → AllByRecursion IsFont fs → AllByRecursion IsFont (map (named name) fs)
each_named name [] n h = tt
each_named name (f ∷ fs) n h = (named_is_font name f n h.0, each_named name fs n h.1)

-- under another name fonts have Subrs at the same indices
pub indices_named : (name : List ℕ) (fs : List FontValue) → indices_of_all (map (named name) fs) ≡ indices_of_all fs
indices_named name [] = refl
indices_named name (f ∷ fs) =
    ap (λ (is : List ℕ). maps.keys (named name f).subrs ++ is) (indices_named name fs)
    ∙ ap (λ (is : List ℕ). is ++ indices_of_all fs) (by_test (can_be_named name f))
  where
    by_test : (b : Bool) → maps.keys (cond b (font_named name f) f).subrs ≡ maps.keys f.subrs
    by_test true = refl
    by_test false = refl

-- ---- fonts beside those that they become

-- under another name a font has the Subrs, the glyphs and the Encoding that it had, and its texts but for the name
abbrev SameBut : FontValue → FontValue → Type 0
SameBut f g = SameEntries f g × (g.encoding ≡ f.encoding) × Renewed f.shell g.shell

abbrev SameUnderName : FontValue → FontValue → Type 0
SameUnderName f g = SameEntries f g × (g.encoding ≡ f.encoding) × RenewedAndNamed f.shell g.shell

under_name : (name : List ℕ) (f g : FontValue) → SameBut f g → SameUnderName f (named name g)
under_name name f g s = by_test (can_be_named name g)
  where
    by_test : (b : Bool) → SameUnderName f (cond b (font_named name g) g)
    by_test true =
        (s.0, s.1, record { between = g.shell; texts = s.2; head = name_renews name g.shell.head; others = refl })
    by_test false = (s.0, s.1, record { between = g.shell; texts = s.2; head = inl refl; others = refl })

-- fonts that are normalized
same_count : (count : ℕ) (fs : List FontValue) → EachBeside SameBut fs (map (normal count) fs)
same_count count [] = tt
same_count count (f ∷ fs) = (((refl, refl), refl, count_renews count f), same_count count fs)

same_box : (u : Box) (count : ℕ) (fs : List FontValue) → EachBeside SameBut fs (map (font_with u) (map (normal count) fs))
same_box u count [] = tt
same_box u count (f ∷ fs) = (((refl, refl), refl, box_renews u count f), same_box u count fs)

shells_same_but : (fs : List FontValue) → EachBeside SameBut fs (normalized_shells fs)
shells_same_but fs = by_cases (λ gs. EachBeside SameBut fs gs) (each_normal fs) (λ _. same_count (largest_count fs) fs)
    (λ bs e t. same_box (joined_box bs) (largest_count fs) fs)

-- fonts that are normalized and get a name
names_same : (name : List ℕ) (fs gs : List FontValue) → EachBeside SameBut fs gs → EachBeside SameUnderName fs (map (named name) gs)
names_same name [] [] s = tt
names_same name [] (g ∷ gs) s = absurd s
names_same name (f ∷ fs) [] s = absurd s
names_same name (f ∷ fs) (g ∷ gs) s = (under_name name f g s.0, names_same name fs gs s.1)

entries_same : (fs gs : List FontValue) → EachBeside SameUnderName fs gs → EachBeside SameEntries fs gs
entries_same [] [] s = tt
entries_same [] (g ∷ gs) s = absurd s
entries_same (f ∷ fs) [] s = absurd s
entries_same (f ∷ fs) (g ∷ gs) s = (s.0.0, entries_same fs gs s.1)

pub named_same : (name : List ℕ) (fs : List FontValue) → EachBeside SameUnderName fs (normalized_named name fs)
named_same name fs = names_same name fs (normalized_shells fs) (shells_same_but fs)

-- ---- codes

-- the Encodings are of one kind, and each code that has a name in d has it in e
abbrev pub KeepsCodes : Encoding → Encoding → Type 0
KeepsCodes e d = SameKind d e × ((c : ℕ) (n : List ℕ) → code_state d c ≡ Some n → code_state e c ≡ Some n)

same_kind : (e : Encoding) → SameKind e e
same_kind (Word w) = refl
same_kind (Codes t) = tt

kinds_compose : (d e k : Encoding) → SameKind d e → SameKind e k → SameKind d k
kinds_compose (Word u) (Word v) (Word w) a b = a ∙ b
kinds_compose (Codes s) (Codes t) (Codes u) a b = tt
kinds_compose (Word u) (Word v) (Codes t) a b = absurd b
kinds_compose (Word u) (Codes s) k a b = absurd a
kinds_compose (Codes s) (Word v) k a b = absurd a
kinds_compose (Codes s) (Codes t) (Word w) a b = absurd b

pub own_codes : (e : Encoding) → KeepsCodes e e
own_codes e = (same_kind e, λ c n h. h)

codes_through : (d e k : Encoding) → KeepsCodes e d → KeepsCodes k e → KeepsCodes k d
codes_through d e k a b = (kinds_compose d e k a.0 b.0, λ c n h. b.1 c n (a.1 c n h))

-- a joined Encoding is of the kind of both
kind_left : (d e : Encoding) → SameKind d e → SameKind d (join_encodings d e)
kind_left (Word v) (Word w) h = refl
kind_left (Word v) (Codes t) h = absurd h
kind_left (Codes s) (Word w) h = absurd h
kind_left (Codes s) (Codes t) h = tt

kind_right : (d e : Encoding) → SameKind d e → SameKind e (join_encodings d e)
kind_right (Word v) (Word w) h = sym h
kind_right (Word v) (Codes t) h = absurd h
kind_right (Codes s) (Word w) h = absurd h
kind_right (Codes s) (Codes t) h = tt

second_of : (x y : Option (List ℕ)) (n : List ℕ) → Agree x y → y ≡ Some n → joined_option x y ≡ Some n
second_of None y n a h = h
second_of (Some v) None n a h = absurd (none-some n h)
second_of (Some v) (Some w) n a h = ap (λ (u : List ℕ). Some u) a ∙ h

-- the codes of two fonts that join keep their names
left_codes : (f g : FontValue) → Compatible profile f g → KeepsCodes (joined_font profile f g).encoding f.encoding
left_codes f g c = (
  kind_left f.encoding g.encoding c.kinds,
  λ k n h. code_joined f.encoding g.encoding c.kinds k ∙ ap (λ (o : Option (List ℕ)). joined_option o (code_state g.encoding k)) h,
)

right_codes : (f g : FontValue) → Compatible profile f g → KeepsCodes (joined_font profile f g).encoding g.encoding
right_codes f g c = (
  kind_right f.encoding g.encoding c.kinds,
  λ k n h. code_joined f.encoding g.encoding c.kinds k ∙ second_of (code_state f.encoding k) (code_state g.encoding k) n (c.codes k) h,
)

-- so do those of fonts that are merged
abbrev pub CodesIn : FontValue → FontValue → Type 0
CodesIn j f = KeepsCodes j.encoding f.encoding

all_on : (p j : FontValue) → CodesIn j p → (fs : List FontValue) → AllByRecursion (CodesIn p) fs → AllByRecursion (CodesIn j) fs
all_on p j b [] a = tt
all_on p j b (f ∷ fs) a = (codes_through f.encoding p.encoding j.encoding a.0 b, all_on p j b fs a.1)

all_both : (j : FontValue) (fs gs : List FontValue) → AllByRecursion (CodesIn j) fs → AllByRecursion (CodesIn j) gs → AllByRecursion (CodesIn j) (fs ++ gs)
all_both j [] gs a b = b
all_both j (f ∷ fs) gs a b = (a.0, all_both j fs gs a.1 b)

codes_in : (t : Grouping FontValue) (j : FontValue) → Merges profile t j → AllByRecursion (CodesIn j) (leaves t)
codes_in (one f) j m = (subst (λ (j : FontValue). CodesIn j f) m (own_codes f.encoding), tt)
codes_in (two s t) j m =
    let l : CodesIn j m.0 = subst (λ (j : FontValue). CodesIn j m.0) m.4.1 (left_codes m.0 m.1 m.4.0.states) in
    let r : CodesIn j m.1 = subst (λ (j : FontValue). CodesIn j m.1) m.4.1 (right_codes m.0 m.1 m.4.0.states) in
    all_both j (leaves s) (leaves t) (all_on m.0 j l (leaves s) (codes_in s m.0 m.2)) (all_on m.1 j r (leaves t) (codes_in t m.1 m.3))

come_codes : (fs : List FontValue) (j : FontValue) → ComesTo fs j → AllByRecursion (CodesIn j) fs
come_codes [] j c = tt
come_codes (f ∷ fs) j c = subst (AllByRecursion (CodesIn j)) (leaves_from_left (one f) fs) (codes_in (from_left (one f) fs) j c)

-- ---- what they rejoin to

all_stay : (j : FontValue) (indices : List ℕ) (fs gs : List FontValue) → EachBeside SameUnderName fs gs → AllByRecursion (AllDrawn j) fs →
    AllByRecursion (CodesIn j) (map (filled indices) gs) → AllByRecursion (λ e. e.shell ≡ j.shell) (map (filled indices) gs) →
    AllByRecursion (λ f. StaysIn f j) fs
all_stay j indices [] [] s d c h = tt
all_stay j indices [] (g ∷ gs) s d c h = absurd s
all_stay j indices (f ∷ fs) [] s d c h = absurd s
all_stay j indices (f ∷ fs) (g ∷ gs) s d c h =
    let k : CodesIn j f = subst (λ (d : Encoding). KeepsCodes j.encoding d) s.0.1 c.0 in (
      record { glyphs = d.0; kind = k.0; codes = k.1; texts = subst (RenewedAndNamed f.shell) h.0 s.0.2 },
      all_stay j indices fs gs s.1 d.1 c.1 h.1,
    )

-- fonts stay in what they rejoin to under a name
pub rejoined_stay : (name : List ℕ) (fs : List FontValue) (j : FontValue) → AreBytes name → AllByRecursion IsFont fs → Rejoin (normalized_named name fs) j →
    IsFont j × AllByRecursion (λ f. StaysIn f j) fs
rejoined_stay name fs j n h r =
    let shells = normalized_named name fs in
    let indices = indices_of_all shells in
    let es = filled_all shells in
    let joined = comes_to_font es j (each_filled indices shells (each_named name (normalized_shells fs) n (shells_are_fonts fs h)) r.light) r.comes in
    let same = named_same name fs in
    let alike = all_unlacking shells fs shells (entries_same fs shells same) r.lacks in (
      joined,
      all_stay j indices fs shells same (drawn_through fs es j h joined alike (draws_all es (Ok j) r.comes)) (come_codes es j r.comes)
          (shells_stay es j r.comes),
    )

-- a font stays in itself
pub stays_in_itself : (f : FontValue) → StaysIn f f
stays_in_itself f =
    let own : (n : List ℕ) → DrawsAlike f f n = λ n. record {
      charstring = refl;
      answer = λ c is. refl;
      answer3 = λ c is. refl;
      executes = λ c is. refl;
      draws = refl;
      draws3 = refl;
    } in
    let seen : (n : List ℕ) → AnswersAlike f f n = λ n. record {
      charstring = refl;
      answer = λ c is. refl;
      answer3 = λ c is. refl;
      executes = λ c is. refl;
      draws = refl;
      draws3 = refl;
    } in
    record {
      glyphs = λ n there. (own n, seen n);
      kind = same_kind f.encoding;
      codes = λ c n e. e;
      texts = record { between = f.shell; texts = stay_renewed f.shell; head = inl refl; others = refl };
    }
