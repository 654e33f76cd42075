-- Names of regular bytes, and lines of them.
use Rattle.std.proofs.Common.{◌≡◌, ℕ, ◌+◌, suc, Bool, true, false, cond, refl, sym, ◌∙◌, ap, subst, List, [], ◌∷◌, ◌++◌, take, inl, inr, Option, Some, None, arith}
use Rattle.std.proofs.{lemmas.Bool.{cases_Bool, eqb-true, and_parts, true≢false}, lemmas.Option.{none-some, same_Some}}
use Rattle.std.specs.{Prelude.{◌==◌, ◌&&◌, ◌||◌, not}, List.{AllByRecursion, prefix_len}, Option.{option_map}}
use Rattle.t1_grammar.specs.Grammar.{first}
use Rattle.t1_text.specs.{Words.{is_regular, all_regular}, Rewriting.{parted}, Tags.{name_marker, name_in}}
use Rattle.t1_document.specs.{declared.marks.Mark.{Mark}, Lines.{line_closes, lf_comes, is_line_end, into_first, lines_of}, Marks.{mark_of}, Documents.{Place, document_of}, Laws.{SpellsPlace}}
use Rattle.t1_document.proofs.{Breaks.{mark_starts}, Retold.{slash_or_percent}, Spelled.{places_spell}}

-- ---- names

regular_part : (text : List ℕ) → all_regular (parted is_regular text).0 ≡ true
regular_part [] = refl
regular_part (b ∷ bs) = by_first (is_regular b) refl (regular_part bs)
  where
    by_first : (t : Bool) → is_regular b ≡ t → all_regular (take (prefix_len is_regular bs) bs) ≡ true →
        all_regular (take (cond t (1 + prefix_len is_regular bs) 0) (b ∷ bs)) ≡ true
    by_first true e h =
        let more : 1 + prefix_len is_regular bs ≡ suc (prefix_len is_regular bs) = omega arith in
        ap (λ (n : ℕ). all_regular (take n (b ∷ bs))) more ∙ (ap (λ (t : Bool). t && all_regular (take (prefix_len is_regular bs) bs)) e ∙ h)
    by_first false e h = refl

pub name_regular : (text name : List ℕ) → name_in text ≡ Some name → all_regular name ≡ true
name_regular text name e = by_read ((first name_marker).read text) e
  where
    by_read : (o : Option ((List ℕ × List ℕ) × List ℕ)) → option_map (λ x. (parted is_regular x.1).0) o ≡ Some name → all_regular name ≡ true
    by_read None k = absurd (none-some name k)
    by_read (Some x) k = ap all_regular (sym (same_Some (parted is_regular x.1).0 name k)) ∙ regular_part x.1

-- a name of regular bytes
abbrev pub IsRegular : List ℕ → Type 0
IsRegular name = all_regular name ≡ true

-- the name of a place
abbrev pub IsNamed : Place → Type 0
IsNamed p = IsRegular p.name

-- each place of a document has such a name
pub places_named : (text : List ℕ) → AllByRecursion IsNamed (document_of text).places
places_named text = each (document_of text).places (places_spell text)
  where
    each : (ps : List Place) → AllByRecursion SpellsPlace ps → AllByRecursion IsNamed ps
    each [] h = tt
    each (p ∷ ps) h = (name_regular h.0.font.shell.head p.name h.0.named, each ps h.1)

-- ---- one line

-- no line ends in a text
abbrev pub no_end : List ℕ → Bool
no_end [] = true
no_end (b ∷ bs) = not (is_line_end b) && no_end bs

regular_ends_no_line : (b : ℕ) → is_regular b ≡ true → not (is_line_end b) ≡ true
regular_ends_no_line b h = elim (cases_Bool (b == 10)) [
  | inl e ↦ absurd (ten (subst (λ (c : ℕ). is_regular c ≡ true) (eqb-true b 10 e) h))
  | inr e ↦ elim (cases_Bool (b == 13)) [
    | inl k ↦ absurd (thirteen (subst (λ (c : ℕ). is_regular c ≡ true) (eqb-true b 13 k) h))
    | inr k ↦ ap (λ (t : Bool). not (t || b == 13)) e ∙ ap not k
  ]
]
  where
    ten : is_regular 10 ≡ true → ⊥
    ten k = true≢false (sym k)

    thirteen : is_regular 13 ≡ true → ⊥
    thirteen k = true≢false (sym k)

pub regular_ends : (name : List ℕ) → all_regular name ≡ true → no_end name ≡ true
regular_ends [] h = refl
regular_ends (b ∷ bs) h =
    let parts = and_parts (is_regular b) (all_regular bs) h in
    ap (λ (t : Bool). t && no_end bs) (regular_ends_no_line b parts.0) ∙ regular_ends bs parts.1

pub no_end-append : (a b : List ℕ) → no_end a ≡ true → no_end b ≡ true → no_end (a ++ b) ≡ true
no_end-append [] b h k = k
no_end-append (c ∷ a) b h k =
    let parts = and_parts (not (is_line_end c)) (no_end a) h in
    ap (λ (t : Bool). t && no_end (a ++ b)) parts.0 ∙ no_end-append a b parts.1 k

-- no line ends with such a byte
pub not_closed : (b : ℕ) → not (is_line_end b) ≡ true → (behind : List ℕ) → line_closes b behind ≡ false
not_closed b k behind = elim (cases_Bool (b == 10)) [
  | inl e ↦ absurd (true≢false (sym k ∙ ap (λ (t : Bool). not (t || b == 13)) e))
  | inr e ↦ elim (cases_Bool (b == 13)) [
    | inl t ↦ absurd (true≢false (sym k ∙ (ap (λ (c : Bool). not (c || b == 13)) e ∙ ap not t)))
    | inr t ↦ ap (λ (c : Bool). c || b == 13 && not (lf_comes behind)) e ∙ ap (λ (c : Bool). c && not (lf_comes behind)) t
  ]
]

-- a text in which no line ends is one line with an LF behind it
pub whole_line : (u : List ℕ) → no_end u ≡ true → lines_of (u ++ 10 ∷ []) ≡ (u ++ 10 ∷ []) ∷ []
unfolding lines_of
whole_line [] h = refl
whole_line (b ∷ bs) h =
    let parts = and_parts (not (is_line_end b)) (no_end bs) h in
    let rest = bs ++ 10 ∷ [] in
    ap (λ (t : Bool). cond t ((b ∷ []) ∷ lines_of rest) (into_first b (lines_of rest))) (not_closed b parts.0 rest)
    ∙ ap (into_first b) (whole_line bs parts.1)

pub slash_no_mark : (inner : List ℕ) → mark_of (47 ∷ inner) ≡ None
slash_no_mark inner = by_mark (mark_of (47 ∷ inner)) refl
  where
    by_mark : (o : Option Mark) → mark_of (47 ∷ inner) ≡ o → o ≡ None
    by_mark None e = refl
    by_mark (Some m) e = let starts = mark_starts (47 ∷ inner) m e in absurd (slash_or_percent inner starts.0 starts.1)
