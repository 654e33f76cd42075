-- Lines of a document that follow one another, and what is open between them.
use Rattle.std.proofs.Common.{◌≡◌, ◌⊎◌, ℕ, zero, suc, ◌==◌, Bool, true, false, cond, List, [], ◌∷◌, ◌++◌, take, drop, refl, sym, ap, subst, ◌∙◌, inl, inr, one-add}
use Rattle.std.proofs.lemmas.{Bool.{cases_Bool, and_parts, eqb-true}, List.{append-nil, take-append-drop}}
use Rattle.std.specs.{Prelude.{◌||◌, ◌&&◌, not, codes}, List.{concat}}
use Rattle.t1_document.specs.{declared.marks.Open.{Open}, Lines.{lines_of, breaks}, Documents.{none_open}}
use Rattle.t1_document.proofs.{LineLemmas.{lines_joined, AreLines, are_lines, breaks-front}, Breaks.{SameStart, breaks-same, same-append}}
use Rattle.t1_dsc.specs.{declared.lines.Role.{Role}, declared.lines.Role.TheVariants.{Text, Page, Trailer, SetupEnd, Structure}}
use Rattle.t1_dsc.specs.Structure.{Line, is_clear, role_of, role_in, same_role, open_with, open_past, lines_from, open_from, lines_in, left_open}
use Rattle.t1_dsc.specs.{Parts.{len_before}, Joining.{is_ended, quiet, quiet_line}, Laws.{texts}}
use Rattle.t1_dsc.proofs.{Wholes.{texts-append, texts_are}, Words.{no_mark, text_role}, Pieces.{Piece, no_piece, both}, QuietLines.{Plain, role_plain}}

-- ---- ends

-- a text that ends a line ends it before each byte but LF
pub ended_breaks : (t : List ℕ) (b : ℕ) (bs : List ℕ) → is_ended t ≡ true → (b == 10) ≡ false → breaks t (b ∷ bs) ≡ true
ended_breaks [] b bs h k = refl
ended_breaks (x ∷ []) b bs h k = rw k (by_parts (x == 10) (x == 13) h)
  where
    by_parts : (y z : Bool) → (y || z) ≡ true → (false || (y || (z && not false))) ≡ true
    by_parts true z e = refl
    by_parts false true e = refl
    by_parts false false e = absurd cc
ended_breaks (x ∷ y ∷ t) b bs h k = ended_breaks (y ∷ t) b bs h k

-- where a line ends before a byte, the text ends a line
breaks_ended : (t : List ℕ) (b : ℕ) (bs : List ℕ) → breaks t (b ∷ bs) ≡ true → is_ended t ≡ true
breaks_ended [] b bs h = refl
breaks_ended (x ∷ []) b bs h = by_parts (x == 10) (x == 13) (not (b == 10)) h
  where
    by_parts : (y z w : Bool) → (false || (y || (z && w))) ≡ true → (y || z) ≡ true
    by_parts true z w e = refl
    by_parts false true w e = refl
    by_parts false false w e = absurd cc
breaks_ended (x ∷ y ∷ t) b bs h = breaks_ended (y ∷ t) b bs h

pub ended_behind : (t : List ℕ) (b : ℕ) (bs : List ℕ) → is_ended (t ++ b ∷ bs) ≡ is_ended (b ∷ bs)
ended_behind [] b bs = refl
ended_behind (x ∷ []) b bs = refl
ended_behind (x ∷ y ∷ t) b bs = ended_behind (y ∷ t) b bs

-- the first of two texts between which a line ends ends a line, and so does the second, where both do
both_ended : (a b : List ℕ) → breaks a b ≡ true → is_ended (a ++ b) ≡ true → (is_ended a ≡ true) × (is_ended b ≡ true)
both_ended a [] h e = (ap is_ended (sym (append-nil a)) ∙ e, refl)
both_ended a (b ∷ bs) h e = (breaks_ended a b bs h, sym (ended_behind a b bs) ∙ e)

-- ---- chains

-- a line in its place: it is whole, and of the role that it has where this is open
pub record IsLink (o : Open) (l : Line) (behind : List ℕ) : Type 0 where
  pub one : lines_of l.text ≡ l.text ∷ []
  pub its_role : l.role ≡ role_in o l.text
  pub ends : breaks l.text behind ≡ true
  pub ended : is_ended l.text ≡ true

-- lines where one thing is open before them, and another behind them
abbrev pub Chain : Open → List Line → Open → Type 0
Chain o [] p = o ≡ p
Chain o (l ∷ ls) p = IsLink o l (texts ls) × Chain (open_past o l.text) ls p

-- the lines of a text are such
chain_lines : (o : Open) (ls : List (List ℕ)) → AreLines ls → is_ended (concat ls) ≡ true → Chain o (lines_from o ls) (open_from o ls)
unfolding lines_from open_from
chain_lines o [] all e = refl
chain_lines o (l ∷ ls) all e =
    let both = both_ended l (concat ls) all.1 e in (
      record { one = all.0; its_role = refl; ends = ap (breaks l) (texts_are (open_past o l) ls) ∙ all.1; ended = both.0 },
      chain_lines (open_past o l) ls all.2 both.1,
    )

pub chain_in : (text : List ℕ) → is_ended text ≡ true → Chain none_open (lines_in text) (left_open text)
chain_in text e = chain_lines none_open (lines_of text) (are_lines text) (ap is_ended (lines_joined text) ∙ e)

-- a chain in two parts
abbrev pub Parted : Open → List Line → Open → ℕ → Type 0
Parted o ls p n = (q : Open) × Chain o (take n ls) q × Chain q (drop n ls) p

pub chain_parts : (o : Open) (ls : List Line) (p : Open) (n : ℕ) → Chain o ls p → Parted o ls p n
chain_parts o ls p zero c = (o, refl, c)
chain_parts o [] p (suc n) c = (o, refl, c)
chain_parts o (l ∷ ls) p (suc n) c =
    let rest = chain_parts (open_past o l.text) ls p n c.1 in
    let whole : texts ls ≡ texts (take n ls) ++ texts (drop n ls) = ap texts (sym (take-append-drop n ls)) ∙ texts-append (take n ls) (drop n ls) in
    let front : breaks l.text (texts (take n ls)) ≡ true =
    breaks-front l.text (texts (take n ls)) (texts (drop n ls)) (ap (breaks l.text) (sym whole) ∙ c.0.ends) in
    (rest.0, (record { one = c.0.one; its_role = c.0.its_role; ends = front; ended = c.0.ended }, rest.1), rest.2)

-- ---- where nothing is open

pub clear_is : (o : Open) → is_clear o ≡ true → o ≡ none_open
clear_is o h =
    let parts = and_parts (o.documents == 0) (o.raw == 0) h in
    ap (λ (n : ℕ). let r : Open = record { documents = n; raw = o.raw } in r) (eqb-true o.documents 0 parts.0)
    ∙ ap (λ (n : ℕ). let r : Open = record { documents = 0; raw = n } in r) (eqb-true o.raw 0 parts.1)

-- a line that is not text stands where nothing is open, and is no text there
pub structure_clear : (o : Open) (t : List ℕ) → same_role Text (role_in o t) ≡ false → (is_clear o ≡ true) × (same_role Text (role_of t) ≡ false)
structure_clear o t h = by_clear (is_clear o) h
  where
    by_clear : (b : Bool) → same_role Text (cond b (role_of t) Text) ≡ false → (b ≡ true) × (same_role Text (role_of t) ≡ false)
    by_clear true e = (refl, e)
    by_clear false e = absurd cc

text_only : (role : Role) → same_role Text role ≡ false → same_role role Text ≡ true → ⊥
text_only Text h k = cc
text_only Page h k = cc
text_only Trailer h k = cc
text_only SetupEnd h k = cc
text_only Structure h k = cc

-- a line of a role that is not text is not text
pub not_text : (role other : Role) → same_role Text role ≡ false → same_role role other ≡ true → same_role Text other ≡ false
not_text role Text h k = absurd (text_only role h k)
not_text role Page h k = refl
not_text role Trailer h k = refl
not_text role SetupEnd h k = refl
not_text role Structure h k = refl

-- the first of lines has this role, or there is none
abbrev pub FirstIs : Role → List Line → Type 0
FirstIs role [] = Unit {0}
FirstIs role (l ∷ ls) = same_role role l.role ≡ true

pub first_is : (role : Role) (ls : List Line) → FirstIs role (drop (len_before role ls) ls)
first_is role [] = tt
first_is role (l ∷ ls) = elim (cases_Bool (same_role role l.role)) [
  | inl e ↦ rw e e
  | inr e ↦ rw (e, one-add) (first_is role ls)
]

-- before a line of such a role nothing is open, and at the end what is open there
pub cut_clear : (role : Role) → same_role Text role ≡ false → (q : Open) (ds : List Line) (p : Open) → FirstIs role ds → Chain q ds p →
    (q ≡ none_open) ⊎ (q ≡ p)
cut_clear role h q [] p f c = inr c
cut_clear role h q (d ∷ ds) p f c =
    let other : same_role Text (role_in q d.text) ≡ false = ap (same_role Text) (sym c.0.its_role) ∙ not_text role d.role h f in
    inl (clear_is q (structure_clear q d.text other).0)

-- ---- quieted

is_text_role : (r : Role) → same_role Text r ≡ true → r ≡ Text
is_text_role Text h = refl
is_text_role Page h = absurd cc
is_text_role Trailer h = absurd cc
is_text_role SetupEnd h = absurd cc
is_text_role Structure h = absurd cc

-- one whole line that is text
pub any_line : (o p : Open) (t : List ℕ) → lines_of t ≡ t ∷ [] → role_in o t ≡ Text → open_past o t ≡ p →
    ((b : ℕ) (bs : List ℕ) → (b == 10) ≡ false → breaks t (b ∷ bs) ≡ true) → Piece o t p []
unfolding lines_from open_from
any_line o p t one role state ends = record { lines = rw (one, role) refl; state = rw one state; ends = ends }

pub text_in : (o : Open) (t : List ℕ) → role_of t ≡ Text → role_in o t ≡ Text
text_in o t h = by_clear (is_clear o)
  where
    by_clear : (b : Bool) → cond b (role_of t) Text ≡ Text
    by_clear true = h
    by_clear false = refl

-- what was structure, behind `% `
marked_line : (o : Open) (t : List ℕ) → lines_of t ≡ t ∷ [] → is_ended t ≡ true → Plain t → Piece o (37 ∷ 32 ∷ t) (open_past o t) []
unfolding lines_of
marked_line o t one e p =
    any_line o (open_past o t) (37 ∷ 32 ∷ t) (rw one refl) (text_in o (37 ∷ 32 ∷ t) (text_role (37 ∷ 32 ∷ t) refl))
    (ap (open_with o) (no_mark (37 ∷ 32 ∷ t) refl) ∙ sym (ap (open_with o) p.mark))
    (λ b bs h. subst (λ (u : List ℕ). breaks (37 ∷ 32 ∷ u) (b ∷ bs) ≡ true) (sym p.starts)
    (ended_breaks (37 ∷ p.inner) b bs (ap is_ended (sym p.starts) ∙ e) h))

-- a line of a document, quieted
quiet_link : (o : Open) (l : Line) (behind : List ℕ) → IsLink o l behind → Piece o (quiet_line l) (open_past o l.text) []
quiet_link o l behind k = by_role (same_role Text l.role) refl
  where
    by_role : (b : Bool) → same_role Text l.role ≡ b → Piece o (cond b [] (codes "% ") ++ l.text) (open_past o l.text) []
    by_role true e =
        any_line o (open_past o l.text) l.text k.one (sym k.its_role ∙ is_text_role l.role e) refl (λ b bs h. ended_breaks l.text b bs k.ended h)
    by_role false e = marked_line o l.text k.one k.ended (role_plain l.text (structure_clear o l.text (ap (same_role Text) (sym k.its_role) ∙ e)).1)

-- quieted lines begin as the lines did, or with `%` as lines of structure do
quiet_starts : (o : Open) (ls : List Line) (p : Open) → Chain o ls p → SameStart (quiet ls) (texts ls)
quiet_starts o [] p c = tt
quiet_starts o (l ∷ ls) p c = by_role (same_role Text l.role) refl (quiet_starts (open_past o l.text) ls p c.1)
  where
    plain : same_role Text l.role ≡ false → Plain l.text
    plain e = role_plain l.text (structure_clear o l.text (ap (same_role Text) (sym c.0.its_role) ∙ e)).1

    marks : (t behind : List ℕ) (more : List ℕ) → Plain t → SameStart (37 ∷ more) (t ++ behind)
    marks t behind more p = subst (λ (u : List ℕ). SameStart (37 ∷ more) (u ++ behind)) (sym p.starts) refl

    by_role : (b : Bool) → same_role Text l.role ≡ b → SameStart (quiet ls) (texts ls) →
        SameStart ((cond b [] (codes "% ") ++ l.text) ++ quiet ls) (l.text ++ texts ls)
    by_role true e later = same-append l.text (quiet ls) (texts ls) later
    by_role false e later = marks l.text (texts ls) (32 ∷ (l.text ++ quiet ls)) (plain e)

-- a line ends before quieted lines where it ended before the lines
quiet_breaks : (o : Open) (l : Line) (ls : List Line) (p : Open) → IsLink o l (texts ls) → Chain (open_past o l.text) ls p →
    breaks (quiet_line l) (quiet ls) ≡ true
quiet_breaks o l ls p k c = by_role (same_role Text l.role) refl
  where
    still : breaks l.text (quiet ls) ≡ true
    still = breaks-same l.text (quiet ls) (texts ls) (quiet_starts (open_past o l.text) ls p c) ∙ k.ends

    behind_mark : (t z : List ℕ) → Plain t → breaks t z ≡ true → breaks (37 ∷ 32 ∷ t) z ≡ true
    behind_mark t z p h = subst (λ (u : List ℕ). breaks (37 ∷ 32 ∷ u) z ≡ true) (sym p.starts) (ap (λ (u : List ℕ). breaks u z) (sym p.starts) ∙ h)

    by_role : (b : Bool) → same_role Text l.role ≡ b → breaks (cond b [] (codes "% ") ++ l.text) (quiet ls) ≡ true
    by_role true e = still
    by_role false e =
        behind_mark l.text (quiet ls) (role_plain l.text (structure_clear o l.text (ap (same_role Text) (sym k.its_role) ∙ e)).1) still

-- lines of a document, quieted, have no structure, and open what they did
pub quiet_piece : (o : Open) (ls : List Line) (p : Open) → Chain o ls p → Piece o (quiet ls) p []
quiet_piece o [] p c = subst (λ (q : Open). Piece o [] q []) c (no_piece o)
quiet_piece o (l ∷ ls) p c =
    both o (open_past o l.text) p (quiet_line l) (quiet ls) [] [] (quiet_breaks o l ls p c.0 c.1) (quiet_link o l (texts ls) c.0)
    (quiet_piece (open_past o l.text) ls p c.1)
