-- The stretches of an entry: one part, and what stands behind the mark that ends it.
use Rattle.std.proofs.Common.{◌≡◌, ℕ, Bool, true, false, cond, List, [], ◌∷◌, ◌++◌, refl, sym, ap, ◌∙◌, subst, Option, Some, None, is_some, append_assoc, arith}
use Rattle.std.proofs.{lemmas.List.{append-nil}, lemmas.Option.{none-some, same_Some}, lemmas.Slice.Eq.{bytes_eq-Decides}}
use Rattle.std.specs.{Prelude.{◌&&◌, ◌||◌, codes}, Str.{bytes_eq}, Option.{option_and_then, option_map}, List.{list_any, list_all}}
use Rattle.t1_grammar.specs.Grammar.{fixed, choice}
use Rattle.t1_font.proofs.canonical.EntriesWritten.{fixed_read}
use Rattle.t1_document.specs.{declared.marks.Side.TheVariants.{Begin, End}, declared.marks.Kind.{Kind}, declared.marks.Kind.TheVariants.{Font, Resource}}
use Rattle.t1_document.specs.{declared.marks.Mark.{Mark}, declared.entries.Least.{Least}, Lines.{lines_of, breaks}, Marks.{begins_with, mark_of, mark_behind, kind_of, has_mark}}
use Rattle.t1_document.specs.{Stretches.{IsStretch, Stretch, stretches, AreThose}, Fonts.{FontText, font_in}, Documents.{Place}}
use Rattle.t1_document.specs.Pooling.{Entry, entry_bytes, behind_text, renaming, defined_as, leaves, is_so, clashes, named_by, if_clear}
use Rattle.t1_document.specs.Pooling.{entry_name, takes_line, entry_named, entry_for, first_from, entry_leaving, entry_by, entry_from}
use Rattle.t1_document.proofs.{LineLemmas.{lines_apart, breaks-nil, breaks_behind}, StretchLemmas.{none_in_nothing, stretches_again}}
use Rattle.t1_document.proofs.{Breaks.{breaks-behind, begun, mark_starts}, FontLemmas.{font_stands}}
use Rattle.t1_document.proofs.{RegularNames.{IsRegular, regular_ends, no_end-append, whole_line, slash_no_mark, name_regular}, Spelled.{spells_name}}

-- ---- what is known of an entry

-- what is known of the entry of a key: its text is that of the key, its name doesn't clash, and it is a font text of this name with what follows it
pub record IsEntry (start : List ℕ) (text : Option (List ℕ)) (e : Entry) : Type 0 where
  pub of_text : text ≡ Some e.text
  pub clear : clashes start e.name ≡ false
  pub unmarked : has_mark (e.text ++ behind_text e.answers) ≡ false
  pub found : font_in (e.text ++ behind_text e.answers) ≡ Some (record { name = e.name; text = e.text; rest = behind_text e.answers })

-- a name that was taken is that of the text
abbrev Named : List ℕ → List ℕ → List ℕ → List ℕ → Type 0
Named start text rest n =
    (clashes start n ≡ false) × (has_mark (text ++ rest) ≡ false) × (font_in (text ++ rest) ≡ Some (record { name = n; text = text; rest = rest }))

named_clear : (start name n : List ℕ) → if_clear start name ≡ Some n → (name ≡ n) × (clashes start n ≡ false)
named_clear start name n e = by_clash (clashes start name) refl e
  where
    by_clash : (b : Bool) → clashes start name ≡ b → cond b None (Some name) ≡ Some n → (name ≡ n) × (clashes start n ≡ false)
    by_clash true c k = absurd (none-some n k)
    by_clash false c k = let same = same_Some name n k in (same, ap (clashes start) (sym same) ∙ c)

pub font_named : (text rest name : List ℕ) (o : Option FontText) → named_by text rest o ≡ Some name →
    o ≡ Some (record { name = name; text = text; rest = rest })
font_named text rest name None e = absurd (none-some name e)
font_named text rest name (Some f) e = by_test (bytes_eq f.text text) (bytes_eq f.rest rest) refl refl e
  where
    by_test : (a b : Bool) → bytes_eq f.text text ≡ a → bytes_eq f.rest rest ≡ b → cond (a && b) (Some f.name) None ≡ Some name →
        ◌≡◌ {A = Option FontText} (Some f) (Some (record { name = name; text = text; rest = rest }))
    by_test true true a b k =
        let n : f.name ≡ name = same_Some f.name name k in
        let t : f.text ≡ text = (bytes_eq-Decides f.text text).0 a in
        let r : f.rest ≡ rest = (bytes_eq-Decides f.rest rest).0 b in
        λ i. Some (record { name = n i; text = t i; rest = r i })
    by_test true false a b k = absurd (none-some name k)
    by_test false b a c k = absurd (none-some name k)

name_known : (start text rest n : List ℕ) → entry_name start text rest ≡ Some n → Named start text rest n
name_known start text rest n e = by_mark (has_mark (text ++ rest)) refl e
  where
    by_name : has_mark (text ++ rest) ≡ false → (o : Option (List ℕ)) → named_by text rest (font_in (text ++ rest)) ≡ o →
        option_and_then (if_clear start) o ≡ Some n → Named start text rest n
    by_name m None h k = absurd (none-some n k)
    by_name m (Some name) h k =
        let c = named_clear start name n k in
        (c.1, m, font_named text rest n (font_in (text ++ rest)) (h ∙ ap (λ (x : List ℕ). Some x) c.0))

    by_mark : (b : Bool) → has_mark (text ++ rest) ≡ b →
        cond b None (option_and_then (if_clear start) (named_by text rest (font_in (text ++ rest)))) ≡ Some n → Named start text rest n
    by_mark true m k = absurd (none-some n k)
    by_mark false m k = by_name m (named_by text rest (font_in (text ++ rest))) refl k

entry_is : (start key text : List ℕ) (answers : Bool) (ps : List Place) (e : Entry) → entry_for start key text answers ps ≡ Some e → IsEntry start (Some text) e
entry_is start key text answers ps e h = by_test (is_so answers (leaves text) && list_all (takes_line start key answers) ps) h
  where
    by_name : (o : Option (List ℕ)) → entry_name start text (behind_text answers) ≡ o → option_map (entry_named text answers) o ≡ Some e →
        IsEntry start (Some text) e
    by_name None n k = absurd (none-some e k)
    by_name (Some name) n k =
        let same : entry_named text answers name ≡ e = same_Some (entry_named text answers name) e k in
        let is = name_known start text (behind_text answers) name n in
        subst (IsEntry start (Some text)) same (record { of_text = refl; clear = is.0; unmarked = is.1; found = is.2 })

    by_test : (b : Bool) → cond b (option_map (entry_named text answers) (entry_name start text (behind_text answers))) None ≡ Some e →
        IsEntry start (Some text) e
    by_test true k = by_name (entry_name start text (behind_text answers)) refl k
    by_test false k = absurd (none-some e k)

pub known_entry : (least : Least) (start key : List ℕ) (text : Option (List ℕ)) (ps : List Place) (e : Entry) → entry_from least start key text ps ≡ Some e →
    IsEntry start text e
known_entry least start key text ps e h = by_text text (first_from least ps) h
  where
    by_leaving : (t : List ℕ) (o : Option Bool) → entry_leaving start key t o ps ≡ Some e → IsEntry start (Some t) e
    by_leaving t None k = absurd (none-some e k)
    by_leaving t (Some answers) k = entry_is start key t answers ps e k

    by_text : (o : Option (List ℕ)) (first : Option Place) → entry_by start key o first ps ≡ Some e → IsEntry start o e
    by_text None first k = absurd (none-some e k)
    by_text (Some t) None k = absurd (none-some e k)
    by_text (Some t) (Some p) k = by_leaving t (leaves p.text) k

-- the name of a font text has regular bytes
pub font_regular : (bytes : List ℕ) (f : FontText) → font_in bytes ≡ Some f → IsRegular f.name
font_regular bytes f e =
    let p : Place = record { before = []; kind = Font; depth = 0; name = f.name; text = f.text; rest = [] } in
    let s = spells_name p (font_stands bytes f e).name in
    name_regular s.font.shell.head f.name s.named

-- ---- lines

-- another byte comes
other_first : (a b : ℕ) (w bs : List ℕ) → (b ≡ a → ⊥) → begins_with (a ∷ w) (b ∷ bs) ≡ false
other_first a b w bs apart = by_read ((fixed (a ∷ w)).read (b ∷ bs)) refl
  where
    heads : (x y : ℕ) (xs ys : List ℕ) → x ∷ xs ≡ y ∷ ys → x ≡ y
    heads x y xs ys k = cc

    by_read : (o : Option (List ℕ × List ℕ)) → (fixed (a ∷ w)).read (b ∷ bs) ≡ o → is_some o ≡ false
    by_read None e = refl
    by_read (Some x) e = absurd (apart (heads b a bs (w ++ x.1) (begun (a ∷ w) (b ∷ bs) x e)))

a_resource : (rest : List ℕ) → kind_of (codes "Resource" ++ rest) ≡ Some Resource
unfolding kind_of
a_resource rest =
    let text = codes "Resource" ++ rest in
    let font : begins_with (codes "Font") text ≡ false = other_first 70 82 (codes "ont") (codes "esource" ++ rest) (λ e. omega (arith, e)) in
    let procs : begins_with (codes "ProcSet") text ≡ false = other_first 80 82 (codes "rocSet") (codes "esource" ++ rest) (λ e. omega (arith, e)) in
    let own : begins_with (codes "Resource") text ≡ true = ap is_some (fixed_read (codes "Resource") rest) in
    rw (font, procs, own) refl

begun_resource : (rest : List ℕ) → mark_of (codes "%%BeginResource" ++ rest) ≡ Some (record { side = Begin; kind = Resource })
unfolding mark_of
begun_resource rest =
    ap (λ (o : Option (List ℕ × List ℕ)). choice (mark_behind Begin o) (mark_behind End ((fixed (codes "%%End")).read (codes "%%BeginResource" ++ rest))))
    (fixed_read (codes "%%Begin") (codes "Resource" ++ rest))
    ∙ ap (λ (o : Option Kind). choice (option_map (λ kind. record { side = Begin; kind = kind }) o)
    (mark_behind End ((fixed (codes "%%End")).read (codes "%%BeginResource" ++ rest))))
    (a_resource rest)

ended : mark_of (codes "%%EndResource\n") ≡ Some (record { side = End; kind = Resource })
unfolding mark_of kind_of
ended = refl

one_line : lines_of (codes "%%EndResource\n") ≡ codes "%%EndResource\n" ∷ []
unfolding lines_of
one_line = refl

pub lf_ends : (u behind : List ℕ) → breaks (u ++ 10 ∷ []) behind ≡ true
lf_ends u [] = breaks-nil (u ++ 10 ∷ [])
lf_ends u (b ∷ bs) = breaks_behind u 10 (b ∷ bs)

word_no_mark : (inner : List ℕ) → mark_of (115 ∷ inner) ≡ None
word_no_mark inner = by_mark (mark_of (115 ∷ inner)) refl
  where
    heads : (a b : ℕ) (xs ys : List ℕ) → a ∷ xs ≡ b ∷ ys → a ≡ b
    heads a b xs ys k = cc

    by_mark : (o : Option Mark) → mark_of (115 ∷ inner) ≡ o → o ≡ None
    by_mark None e = refl
    by_mark (Some m) e = let starts = mark_starts (115 ∷ inner) m e in absurd (omega (arith, heads 115 37 inner starts.0 starts.1))

module _ (own key : List ℕ) (regular : IsRegular (own ++ key)) where
  -- the lines behind a part have no mark
  renaming_unmarked : (name : List ℕ) → IsRegular name → has_mark (renaming (47 ∷ own) key name) ≡ false
  renaming_unmarked name n =
      let inner = (own ++ key) ++ (codes " /" ++ (name ++ codes " findfont definefont pop")) in
      let last = codes "ystemdict/undefinefont known{/" ++ (name ++ codes " undefinefont}if") in
      let one : lines_of ((47 ∷ inner) ++ 10 ∷ []) ≡ ((47 ∷ inner) ++ 10 ∷ []) ∷ [] =
      whole_line (47 ∷ inner)
      (no_end-append (own ++ key) (codes " /" ++ (name ++ codes " findfont definefont pop")) (regular_ends (own ++ key) regular)
      (no_end-append name (codes " findfont definefont pop") (regular_ends name n) refl)) in
      let two : lines_of ((115 ∷ last) ++ 10 ∷ []) ≡ ((115 ∷ last) ++ 10 ∷ []) ∷ [] =
      whole_line (115 ∷ last) (no_end-append name (codes " undefinefont}if") (regular_ends name n) refl) in
      let whole : renaming (47 ∷ own) key name ≡ ((47 ∷ inner) ++ 10 ∷ []) ++ ((115 ∷ last) ++ 10 ∷ []) =
      ap (λ (t : List ℕ). 47 ∷ (inner ++ (10 ∷ 115 ∷ (codes "ystemdict/undefinefont known{/" ++ t))))
      (sym (append_assoc name (codes " undefinefont}if") (10 ∷ [])))
      ∙ sym (append_assoc (47 ∷ inner) (10 ∷ []) ((115 ∷ last) ++ 10 ∷ [])) in
      let both : lines_of (renaming (47 ∷ own) key name) ≡ ((47 ∷ inner) ++ 10 ∷ []) ∷ ((115 ∷ last) ++ 10 ∷ []) ∷ [] =
      ap lines_of whole
      ∙ (lines_apart ((47 ∷ inner) ++ 10 ∷ []) ((115 ∷ last) ++ 10 ∷ []) (lf_ends (47 ∷ inner) ((115 ∷ last) ++ 10 ∷ []))
      ∙ (λ i. one i ++ two i)) in
      ap (λ (ls : List (List ℕ)). list_any (λ line. is_some (mark_of line)) ls) both
      ∙ (ap (λ (m : Option Mark). is_some m || (is_some (mark_of ((115 ∷ last) ++ 10 ∷ [])) || false)) (slash_no_mark (inner ++ 10 ∷ []))
      ∙ ap (λ (m : Option Mark). is_some m || false) (word_no_mark (last ++ 10 ∷ [])))

  -- a line ends behind them
  abbrev pub front_of : List ℕ → List ℕ
  front_of name = defined_as (47 ∷ (own ++ key)) (47 ∷ name) ++ (codes "\nsystemdict/undefinefont known{/" ++ name)

  ends_apart : (d l n w : List ℕ) → d ++ (l ++ (n ++ w)) ≡ (d ++ (l ++ n)) ++ w
  ends_apart d l n w = simp append_assoc

  pub renaming_ends : (name : List ℕ) → renaming (47 ∷ own) key name ≡ front_of name ++ codes " undefinefont}if\n"
  renaming_ends name =
      ends_apart (defined_as (47 ∷ (own ++ key)) (47 ∷ name)) (codes "\nsystemdict/undefinefont known{/") name (codes " undefinefont}if\n")

-- a line ends behind such an end
pub word_ends : (front behind : List ℕ) → breaks (front ++ codes " undefinefont}if\n") behind ≡ true
word_ends front behind = breaks-behind front 32 (codes "undefinefont}if\n") behind ∙ lf_ends (codes " undefinefont}if") behind

-- ---- stretches

-- the part of an entry
abbrev pub part : Entry → Stretch
part e = record {
  mark = record { side = Begin; kind = Resource };
  line = codes "%%BeginResource: font " ++ (e.name ++ codes "\n");
  text = e.text ++ behind_text e.answers;
}

-- and its end
abbrev pub part_end : List ℕ → List ℕ → Entry → Stretch
part_end start key e = record { mark = record { side = End; kind = Resource }; line = codes "%%EndResource\n"; text = renaming start key e.name }

-- the bytes of both are those of the entry
pub bytes_are : (start key : List ℕ) (e : Entry) →
    ((part e).line ++ (part e).text) ++ ((part_end start key e).line ++ (part_end start key e).text) ≡ entry_bytes start key e
bytes_are start key e =
    regroup (codes "%%BeginResource: font " ++ (e.name ++ codes "\n")) e.text (behind_text e.answers) (codes "%%EndResource\n") (renaming start key e.name)
  where
    regroup : (a t b c d : List ℕ) → (a ++ (t ++ b)) ++ (c ++ d) ≡ (a ++ (t ++ (b ++ c))) ++ d
    regroup a t b c d = simp append_assoc

text_closed : (text : List ℕ) (answers : Bool) (behind : List ℕ) → breaks (text ++ behind_text answers) (37 ∷ behind) ≡ true
text_closed text true behind = breaks-behind text 123 (codes "restore}if\n") (37 ∷ behind)
text_closed text false behind = breaks-behind text 10 [] (37 ∷ behind)

-- the part is a stretch before its end
pub part_is : (start key : List ℕ) (e : Entry) (behind : List ℕ) → IsRegular e.name → has_mark (e.text ++ behind_text e.answers) ≡ false →
    IsStretch (part e) (((part_end start key e).line ++ (part_end start key e).text) ++ behind)
part_is start key e behind named unmarked = record {
  mark = begun_resource (codes ": font " ++ (e.name ++ codes "\n"));
  whole = whole_line (codes "%%BeginResource: font " ++ e.name) (no_end-append (codes "%%BeginResource: font ") e.name refl (regular_ends e.name named));
  unmarked = unmarked;
  line_ends = lf_ends (codes "%%BeginResource: font " ++ e.name)
      ((part e).text ++ (((part_end start key e).line ++ (part_end start key e).text) ++ behind));
  text_ends = text_closed e.text e.answers (codes "%EndResource\n" ++ renaming start key e.name ++ behind);
}

-- and so is its end before anything
pub end_is : (own key : List ℕ) → IsRegular (own ++ key) → (e : Entry) (behind : List ℕ) → IsRegular e.name → IsStretch (part_end (47 ∷ own) key e) behind
end_is own key regular e behind named = record {
  mark = ended;
  whole = one_line;
  unmarked = renaming_unmarked own key regular e.name named;
  line_ends = lf_ends (codes "%%EndResource") (renaming (47 ∷ own) key e.name ++ behind);
  text_ends = ap (λ (t : List ℕ). breaks t behind) (renaming_ends own key regular e.name) ∙ word_ends (front_of own key regular e.name) behind;
}

-- the stretches of an entry
pub stretches_of_entry : (own key : List ℕ) → IsRegular (own ++ key) → (e : Entry) → IsRegular e.name → has_mark (e.text ++ behind_text e.answers) ≡ false →
    stretches (entry_bytes (47 ∷ own) key e) ≡ ([], part e ∷ part_end (47 ∷ own) key e ∷ [])
stretches_of_entry own key regular e named unmarked =
    let t = part_end (47 ∷ own) key e in
    let those : AreThose ([], part e ∷ t ∷ []) = record {
      unmarked = none_in_nothing;
      front_ends = refl;
      each = (part_is (47 ∷ own) key e [] named unmarked, (end_is own key regular e [] named, tt));
    } in
    ap stretches (sym (ap (λ (u : List ℕ). ((part e).line ++ (part e).text) ++ u) (append-nil (t.line ++ t.text)) ∙ bytes_are (47 ∷ own) key e))
    ∙ stretches_again ([], part e ∷ t ∷ []) those
