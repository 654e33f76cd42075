-- The parts of the joined document that are its own, as pieces.
use Rattle.std.proofs.Common.{◌≡◌, ℕ, Bool, true, false, List, [], ◌∷◌, ◌++◌, replicate, refl, sym, ap, subst, ◌∙◌, append_assoc, arith}
use Rattle.std.specs.Prelude.{codes, decimal, if◌then◌else◌}
use Rattle.t1_document.specs.{Documents.{none_open}, Pooling.{own_start}}
use Rattle.t1_dsc.specs.{declared.lines.Role.TheVariants.{Page, Structure, Text}, Structure.{role_of, same_role, open_with, lines_in, left_open}}
use Rattle.t1_dsc.specs.Joining.{name_of, page_line, procedure_begin, procedure_end, header, prolog, is_ended, ended, quiet, closing, quiet_in, setup}
use Rattle.t1_dsc.proofs.{Words.{differs, neither_mark, has_word, no_word}, Pieces.{Piece, full_then, then_other, Full, lf_full, one_line, structure_line}}
use Rattle.t1_dsc.proofs.Chains.{ended_behind, chain_in, quiet_piece}
use Rattle.t1_dsc.proofs.OwnLines.{own_text, NoEnds, noends-append, colons_noends, decimal_noends, closing_piece, closing_starts, setup_begun, setup_over}
use Rattle.t1_dsc.proofs.OwnLines.{prolog_begun, prolog_over, version_line, comments_end}

-- ---- lines of numbers

page_role : (n : ℕ) → role_of (page_line n) ≡ Page
unfolding role_of
page_role n = rw (has_word (codes "%%Page:") (32 ∷ (((decimal n ++ codes " ") ++ decimal n) ++ codes "\n"))) refl

page_noends : (n : ℕ) → NoEnds (codes "%%Page: " ++ decimal n ++ codes " " ++ decimal n)
page_noends n =
    noends-append (codes "%%Page: " ++ decimal n ++ codes " ") (decimal n)
    (noends-append (codes "%%Page: " ++ decimal n) (codes " ") (noends-append (codes "%%Page: ") (decimal n) refl (decimal_noends n)) refl) (decimal_noends n)

pub page_full : (n : ℕ) → Full (page_line n)
page_full n = lf_full (codes "%%Page: " ++ decimal n ++ codes " " ++ decimal n)

pub page_line_piece : (n : ℕ) → Piece none_open (page_line n) none_open (page_line n ∷ [])
page_line_piece n =
    structure_line none_open (page_line n) (one_line (codes "%%Page: " ++ decimal n ++ codes " " ++ decimal n) (page_noends n))
    (ap (same_role Text) (page_role n)) (ap (open_with none_open) (neither_mark (page_line n) refl refl)) (λ b bs h. page_full n (b ∷ bs))

abbrev count_line : ℕ → List ℕ
count_line n = codes "%%Pages: " ++ decimal n ++ codes "\n"

count_role : (n : ℕ) → role_of (count_line n) ≡ Structure
unfolding role_of
count_role n =
    rw (
      no_word (codes "%%Page:") (count_line n) refl,
      no_word (codes "%%Trailer") (count_line n) refl,
      no_word (codes "%%EOF") (count_line n) refl,
      no_word (codes "%%EndPageSetup") (count_line n) refl,
      has_word (codes "%%Pages:") (32 ∷ (decimal n ++ codes "\n")),
    ) refl

count_piece : (n : ℕ) → Piece none_open (count_line n) none_open (count_line n ∷ [])
count_piece n =
    structure_line none_open (count_line n) (one_line (codes "%%Pages: " ++ decimal n) (noends-append (codes "%%Pages: ") (decimal n) refl (decimal_noends n)))
    (ap (same_role Text) (count_role n)) (ap (open_with none_open) (neither_mark (count_line n) refl refl))
    (λ b bs h. lf_full (codes "%%Pages: " ++ decimal n) (b ∷ bs))

header_is : (n : ℕ) → header n ≡ codes "%!PS-Adobe-3.0\n" ++ (count_line n ++ codes "%%EndComments\n")
unfolding header
header_is n = ap (λ (t : List ℕ). codes "%!PS-Adobe-3.0\n%%Pages: " ++ t) (sym (append_assoc (decimal n) (codes "\n") (codes "%%EndComments\n")))

pub header_piece : (n : ℕ) → Piece none_open (header n) none_open (count_line n ∷ codes "%%EndComments\n" ∷ [])
header_piece n =
    subst (λ (t : List ℕ). Piece none_open t none_open (count_line n ∷ codes "%%EndComments\n" ∷ [])) (sym (header_is n))
    (full_then none_open none_open none_open (codes "%!PS-Adobe-3.0\n") (count_line n ++ codes "%%EndComments\n")
    [] (count_line n ∷ codes "%%EndComments\n" ∷ [])
    (lf_full (codes "%!PS-Adobe-3.0")) version_line
    (full_then none_open none_open none_open (count_line n) (codes "%%EndComments\n") (count_line n ∷ []) (codes "%%EndComments\n" ∷ [])
    (lf_full (codes "%%Pages: " ++ decimal n)) (count_piece n) comments_end))

-- ---- lines of names

start_noends : (k : ℕ) → NoEnds (own_start k)
start_noends k = noends-append (codes "/pool") (replicate k 58) refl (colons_noends k)

name_noends : (k : ℕ) (w : List ℕ) → NoEnds w → NoEnds (name_of (own_start k) w)
name_noends k w h = noends-append (codes "pool" ++ replicate k 58) w (noends-append (codes "pool") (replicate k 58) refl (colons_noends k)) h

-- what ends with LF, in other brackets
line_at : (u t : List ℕ) → u ++ 10 ∷ [] ≡ t → NoEnds u → differs (codes "%%") (u ++ 10 ∷ []) ≡ true → Piece none_open t none_open []
line_at u t e h d = subst (λ (v : List ℕ). Piece none_open v none_open []) e (own_text u h d)

pub name_piece : (k : ℕ) (w : List ℕ) → NoEnds w → Piece none_open (name_of (own_start k) (w ++ 10 ∷ [])) none_open []
name_piece k w h =
    line_at (name_of (own_start k) w) (name_of (own_start k) (w ++ 10 ∷ [])) (append_assoc (codes "pool" ++ replicate k 58) w (10 ∷ []))
    (name_noends k w h) refl

pub name_full : (k : ℕ) (w : List ℕ) → Full (name_of (own_start k) (w ++ 10 ∷ []))
name_full k w = subst Full (append_assoc (codes "pool" ++ replicate k 58) w (10 ∷ [])) (lf_full (name_of (own_start k) w))

regroup : (x s b c d : List ℕ) → (((x ++ s) ++ b) ++ c) ++ d ≡ x ++ (((s ++ b) ++ c) ++ d)
regroup x s b c d = simp append_assoc

regroup_end : (s b c d e f : List ℕ) → ((((s ++ b) ++ c) ++ d) ++ e) ++ f ≡ (((s ++ b) ++ c) ++ d) ++ (e ++ f)
regroup_end s b c d e f = append_assoc (((s ++ b) ++ c) ++ d) e f

kept_line : (k : ℕ) → Piece none_open (own_start k ++ codes "kept 3 dict def\n") none_open []
kept_line k =
    line_at (own_start k ++ codes "kept 3 dict def") (own_start k ++ codes "kept 3 dict def\n") (append_assoc (own_start k) (codes "kept 3 dict def") (10 ∷ []))
    (noends-append (own_start k) (codes "kept 3 dict def") (start_noends k) refl) refl

abbrev begin_front : ℕ → List ℕ
begin_front k = own_start k ++ codes "begin{" ++ name_of (own_start k) (codes "kept begin/saved save def")

begin_front_noends : (k : ℕ) → NoEnds (begin_front k)
begin_front_noends k =
    noends-append (own_start k ++ codes "begin{") (name_of (own_start k) (codes "kept begin/saved save def"))
    (noends-append (own_start k) (codes "begin{") (start_noends k) refl) (name_noends k (codes "kept begin/saved save def") refl)

begin_line : (k : ℕ) → Piece none_open (begin_front k ++ codes "/operands count 1 sub def/dicts countdictstack 1 sub def end}bind def\n") none_open []
begin_line k =
    line_at (begin_front k ++ codes "/operands count 1 sub def/dicts countdictstack 1 sub def end}bind def")
    (begin_front k ++ codes "/operands count 1 sub def/dicts countdictstack 1 sub def end}bind def\n")
    (append_assoc (begin_front k) (codes "/operands count 1 sub def/dicts countdictstack 1 sub def end}bind def") (10 ∷ []))
    (noends-append (begin_front k) (codes "/operands count 1 sub def/dicts countdictstack 1 sub def end}bind def") (begin_front_noends k) refl) refl

begin_piece : (k : ℕ) → Piece none_open (procedure_begin (own_start k)) none_open []
begin_piece k =
    subst (λ (t : List ℕ). Piece none_open t none_open [])
    (sym (regroup (own_start k ++ codes "kept 3 dict def\n") (own_start k) (codes "begin{") (name_of (own_start k) (codes "kept begin/saved save def"))
    (codes "/operands count 1 sub def/dicts countdictstack 1 sub def end}bind def\n")))
    (then_other none_open none_open none_open (own_start k ++ codes "kept 3 dict def\n")
    (begin_front k ++ codes "/operands count 1 sub def/dicts countdictstack 1 sub def end}bind def\n") [] [] refl (kept_line k) (begin_line k))

abbrev end_front : ℕ → List ℕ
end_front k =
    own_start k ++ codes "end{count " ++ name_of (own_start k) (codes "kept/operands get sub dup 0 gt{{pop}repeat}{pop}ifelse countdictstack ")
    ++ name_of (own_start k) (codes "kept/dicts get sub dup 0 gt{{end}repeat}{pop}ifelse ")

end_front_noends : (k : ℕ) → NoEnds (end_front k)
end_front_noends k =
    noends-append (own_start k ++ codes "end{count " ++ name_of (own_start k) (codes "kept/operands get sub dup 0 gt{{pop}repeat}{pop}ifelse countdictstack "))
    (name_of (own_start k) (codes "kept/dicts get sub dup 0 gt{{end}repeat}{pop}ifelse "))
    (noends-append (own_start k ++ codes "end{count ") (name_of (own_start k) (codes "kept/operands get sub dup 0 gt{{pop}repeat}{pop}ifelse countdictstack "))
    (noends-append (own_start k) (codes "end{count ") (start_noends k) refl)
    (name_noends k (codes "kept/operands get sub dup 0 gt{{pop}repeat}{pop}ifelse countdictstack ") refl))
    (name_noends k (codes "kept/dicts get sub dup 0 gt{{end}repeat}{pop}ifelse ") refl)

end_piece : (k : ℕ) → Piece none_open (procedure_end (own_start k)) none_open []
end_piece k =
    line_at (end_front k ++ name_of (own_start k) (codes "kept/saved get restore}bind def")) (procedure_end (own_start k))
    (append_assoc (end_front k) (name_of (own_start k) (codes "kept/saved get restore}bind def")) (10 ∷ [])
    ∙ ap (λ (t : List ℕ). end_front k ++ t) (append_assoc (codes "pool" ++ replicate k 58) (codes "kept/saved get restore}bind def") (10 ∷ [])))
    (noends-append (end_front k) (name_of (own_start k) (codes "kept/saved get restore}bind def")) (end_front_noends k)
    (name_noends k (codes "kept/saved get restore}bind def") refl)) refl

pub prolog_piece : (k : ℕ) → Piece none_open (prolog (own_start k)) none_open (codes "%%BeginProlog\n" ∷ codes "%%EndProlog\n" ∷ [])
unfolding prolog
prolog_piece k =
    then_other none_open none_open none_open (codes "%%BeginProlog\n" ++ procedure_begin (own_start k) ++ procedure_end (own_start k))
    (codes "%%EndProlog\n") (codes "%%BeginProlog\n" ∷ []) (codes "%%EndProlog\n" ∷ []) refl
    (then_other none_open none_open none_open (codes "%%BeginProlog\n" ++ procedure_begin (own_start k))
    (procedure_end (own_start k)) (codes "%%BeginProlog\n" ∷ []) [] refl
    (then_other none_open none_open none_open (codes "%%BeginProlog\n") (procedure_begin (own_start k)) (codes "%%BeginProlog\n" ∷ []) [] refl
    prolog_begun (begin_piece k)) (end_piece k)) prolog_over

-- ---- fonts

pub ended_is : (t : List ℕ) → is_ended (ended t) ≡ true
ended_is t = by_end (is_ended t) refl
  where
    by_end : (b : Bool) → is_ended t ≡ b → is_ended (if b then t else t ++ 10 ∷ []) ≡ true
    by_end true e = e
    by_end false e = ended_behind t 10 []

quiet_in_piece : (t : List ℕ) → is_ended t ≡ true → Piece none_open (quiet_in t) none_open []
unfolding quiet_in
quiet_in_piece t e =
    then_other none_open (left_open t) none_open (quiet (lines_in t)) (closing (left_open t)) [] [] (closing_starts (left_open t))
    (quiet_piece none_open (lines_in t) (left_open t) (chain_in t e)) (closing_piece (left_open t) (left_open t) (omega arith) (omega arith))

pub setup_piece : (fonts : List ℕ) → Piece none_open (setup fonts) none_open (codes "%%BeginSetup\n" ∷ codes "%%EndSetup\n" ∷ [])
unfolding setup
setup_piece fonts =
    then_other none_open none_open none_open (codes "%%BeginSetup\n" ++ quiet_in (ended fonts))
    (codes "%%EndSetup\n") (codes "%%BeginSetup\n" ∷ []) (codes "%%EndSetup\n" ∷ []) refl
    (full_then none_open none_open none_open (codes "%%BeginSetup\n") (quiet_in (ended fonts)) (codes "%%BeginSetup\n" ∷ []) [] (lf_full (codes "%%BeginSetup"))
    setup_begun (quiet_in_piece (ended fonts) (ended_is fonts))) setup_over
