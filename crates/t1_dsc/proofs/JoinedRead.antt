-- The joined document, read again.
use Rattle.std.proofs.Common.{◌≡◌, ◌⊎◌, ℕ, zero, suc, ◌+◌, Bool, true, false, cond, List, [], ◌∷◌, ◌++◌, length, take, drop, Option, Some, None, is_some, refl, sym, ap, subst, ◌∙◌, inl, inr, arith}
use Rattle.std.proofs.lemmas.Bool.{and_parts}
use Rattle.std.specs.{Prelude.{◌||◌, not, codes, decimal}, List.{list_all}, Option.{option_map}}
use Rattle.t1_grammar.specs.Grammar.{fixed, choice}
use Rattle.t1_document.specs.{declared.marks.Side.TheVariants.{Begin, End}, declared.marks.Kind.{Kind}, declared.marks.Open.{Open}, Lines.{lf_comes}}
use Rattle.t1_document.specs.declared.marks.Kind.TheVariants.{Font, ProcSet, Resource, Document, Data, Binary}
use Rattle.t1_document.specs.{Marks.{begins_with, kind_of, mark_behind, mark_of}, Documents.{none_open}, Pooling.{own_start}}
use Rattle.t1_dsc.specs.{declared.lines.Role.TheVariants.{Text, Page, Trailer}, Structure.{Line, same_role, open_with, open_past, lines_in, left_open}}
use Rattle.t1_dsc.specs.Parts.{Parts, len_before, before, from, has, is_header, header_len, behind_header, pages_in, has_pages, parts_of}
use Rattle.t1_dsc.specs.Joining.{is_ended, ended, quiet, closing, parts_in, frame_of, count_in, bytes_in, page_count, pages_bytes, documents_bytes, total}
use Rattle.t1_dsc.specs.Joining.{header, prolog, setup, joined_pages}
use Rattle.t1_dsc.specs.Laws.{front_structure, pages_structure, PagesAreRead}
use Rattle.t1_dsc.proofs.{Wholes.{all_first}, FreeNames.{names_start_is}, Pieces.{Piece, no_piece, then_other}}
use Rattle.t1_dsc.proofs.Chains.{Chain, chain_in, chain_parts, FirstIs, first_is, not_text, clear_is, structure_clear, quiet_piece}
use Rattle.t1_dsc.proofs.OwnLines.{closing_piece, closing_starts, document_ends}
use Rattle.t1_dsc.proofs.OwnPieces.{ended_is, header_piece, prolog_piece, setup_piece}
use Rattle.t1_dsc.proofs.PagePieces.{page_lines_of, has_cut, lf-append, pages_piece, pages_start, good_pages}

-- ---- a header opens nothing

end_keeps : (o : Option Kind) → open_with none_open (option_map (λ kind. record { side = End; kind = kind }) o) ≡ none_open
end_keeps None = refl
end_keeps (Some Font) = refl
end_keeps (Some ProcSet) = refl
end_keeps (Some Resource) = refl
end_keeps (Some Document) = refl
end_keeps (Some Data) = refl
end_keeps (Some Binary) = refl

behind_keeps : (x : Option (List ℕ × List ℕ)) → open_with none_open (mark_behind End x) ≡ none_open
behind_keeps None = refl
behind_keeps (Some x) = end_keeps (kind_of x.1)

is_none : {A : Type 0} (o : Option A) → is_some o ≡ false → o ≡ None
is_none None h = refl
is_none (Some x) h = absurd cc

header_line : (t : List ℕ) → is_header t ≡ true → open_past none_open t ≡ none_open
unfolding mark_of
header_line t h =
    let parts = and_parts (begins_with (codes "%%") t || begins_with (codes "%!") t)
    (not (begins_with (codes "%%Begin") t || begins_with (codes "%%Page:") t || begins_with (codes "%%Include") t)) h in
    let no_begin : begins_with (codes "%%Begin") t ≡ false =
    first_not (begins_with (codes "%%Begin") t) (begins_with (codes "%%Page:") t) (begins_with (codes "%%Include") t) parts.1 in
    ap (λ o. open_with none_open (choice (mark_behind Begin o) (mark_behind End ((fixed (codes "%%End")).read t))))
    (is_none ((fixed (codes "%%Begin")).read t) no_begin)
    ∙ behind_keeps ((fixed (codes "%%End")).read t)
  where
    first_not : (a b c : Bool) → not (a || b || c) ≡ true → a ≡ false
    first_not true b c e = absurd cc
    first_not false b c e = refl

header_keeps : (ls : List Line) (q : Open) → Chain none_open ls q → list_all (λ l. is_header l.text) ls ≡ true → q ≡ none_open
header_keeps [] q c h = sym c
header_keeps (l ∷ ls) q c h =
    let parts = and_parts (is_header l.text) (list_all (λ k. is_header k.text) ls) h in
    header_keeps ls q (subst (λ (o : Open). Chain o ls q) (header_line l.text parts.0) c.1) parts.1

behind_chain : (text : List ℕ) → is_ended text ≡ true → Chain none_open (behind_header (lines_in text)) (left_open text)
behind_chain text e = made (chain_parts none_open (lines_in text) (left_open text) (header_len (lines_in text)) (chain_in text e))
  where
    made : (x : (o : Open) × Chain none_open (take (header_len (lines_in text)) (lines_in text)) o
        × Chain o (drop (header_len (lines_in text)) (lines_in text)) (left_open text)) → Chain none_open (behind_header (lines_in text)) (left_open text)
    made (o, front, back) =
        subst (λ (s : Open). Chain s (drop (header_len (lines_in text)) (lines_in text)) (left_open text))
        (header_keeps (take (header_len (lines_in text)) (lines_in text)) o front (all_first (λ l. is_header l.text) (lines_in text))) back

-- ---- the tail of each page

closes_none : (p : Open) → Piece none_open (closing p) none_open []
closes_none p = closing_piece none_open p (omega arith) (omega arith)

closes_own : (p : Open) → Piece p (closing p) none_open []
closes_own p = closing_piece p p (omega arith) (omega arith)

-- where the trailer begins nothing is open, or there is none
trailer_clear : (t : Line) (ts : List Line) (q p : Open) → FirstIs Trailer (t ∷ ts) → Chain q (t ∷ ts) p → (q ≡ none_open) × (same_role Text t.role ≡ false)
trailer_clear t ts q p f c =
    let not : same_role Text t.role ≡ false = not_text Trailer t.role refl f in
    (clear_is q (structure_clear q t.text (ap (same_role Text) (sym c.0.its_role) ∙ not)).0, not)

tail_piece : (ls : List Line) (q p r : Open) → FirstIs Trailer ls → Chain q ls p → (r ≡ none_open) ⊎ (r ≡ q) → Piece r (quiet ls ++ closing p) none_open []
tail_piece [] q p r f c (inl e) = subst (λ (s : Open). Piece s (closing p) none_open []) (sym e) (closes_none p)
tail_piece [] q p r f c (inr e) = subst (λ (s : Open). Piece s (closing p) none_open []) (sym (e ∙ c)) (closes_own p)
tail_piece (t ∷ ts) q p r f c ends =
    let is : q ≡ none_open = (trailer_clear t ts q p f c).0 in
    let none : r ≡ none_open = elim ends [ inl e ↦ e | inr e ↦ e ∙ is ] in
    subst (λ (s : Open). Piece s (quiet (t ∷ ts) ++ closing p) none_open []) (sym none)
    (then_other none_open p none_open (quiet (t ∷ ts)) (closing p) [] [] (closing_starts p)
    (subst (λ (s : Open). Piece s (quiet (t ∷ ts)) p []) is (quiet_piece q (t ∷ ts) p c)) (closes_own p))

trailer_starts : (ls : List Line) (q p : Open) → FirstIs Trailer ls → Chain q ls p → lf_comes (quiet ls) ≡ false
trailer_starts [] q p f c = refl
trailer_starts (t ∷ ts) q p f c = rw ((trailer_clear t ts q p f c).1) refl

-- ---- a document

-- the parts, where there are pages, and where there are none
abbrev paged : List Line → Parts
paged ls = record { head = before Page (before Trailer ls); pages = pages_in (before Trailer ls); trailer = from Trailer ls }

abbrev unpaged : List Line → Parts
unpaged ls = record { head = []; pages = record { own = []; body = ls } ∷ []; trailer = [] }

abbrev IsRead : ℕ → ℕ → Open → Parts → Type 0
IsRead k n p parts = Piece none_open (pages_bytes (own_start k) (frame_of parts p) n parts.pages) none_open (pages_structure n (length parts.pages))

unpaged_read : (k n : ℕ) (ls : List Line) (p : Open) → Chain none_open ls p → IsRead k n p (unpaged ls)
unpaged_read k n ls p c =
    pages_piece k n (frame_of (unpaged ls) p) (unpaged ls).pages p
    (record { head = no_piece none_open; tail = λ r ends. tail_piece [] p p r tt refl ends; tail_starts = closing_starts p })
    (record { own = no_piece none_open; own_starts = refl; last = p; body = c; ends = inr refl }, tt)

paged_read : (k n : ℕ) (ls : List Line) (p : Open) → has Page (before Trailer ls) ≡ true → Chain none_open ls p → IsRead k n p (paged ls)
paged_read k n ls p h c = made (chain_parts none_open ls p (len_before Trailer ls) c)
  where
    made : (x : (q : Open) × Chain none_open (before Trailer ls) q × Chain q (from Trailer ls) p) → IsRead k n p (paged ls)
    made (q, front, back) =
        pages_piece k n (frame_of (paged ls) p) (pages_in (before Trailer ls)) q
        (record {
          head = head_read (chain_parts none_open (before Trailer ls) q (len_before Page (before Trailer ls)) front);
          tail = λ r ends. tail_piece (from Trailer ls) q p r (first_is Trailer ls) back ends;
          tail_starts = lf-append (quiet (from Trailer ls)) (closing p) (trailer_starts (from Trailer ls) q p (first_is Trailer ls) back) (closing_starts p);
        }) (good_pages (before Trailer ls) none_open q front)
      where
        head_read : (x : (o : Open) × Chain none_open (before Page (before Trailer ls)) o × Chain o (from Page (before Trailer ls)) q) →
            Piece none_open (quiet (before Page (before Trailer ls))) none_open []
        head_read (o, head, rest) =
            subst (λ (s : Open). Piece none_open (quiet (before Page (before Trailer ls))) s []) (has_cut Page refl (before Trailer ls) h o q rest)
            (quiet_piece none_open (before Page (before Trailer ls)) o head)

parts_read : (k n : ℕ) (ls : List Line) (p : Open) → Chain none_open ls p → IsRead k n p (parts_of ls)
parts_read k n ls p c = by_pages (has_pages ls) refl
  where
    by_pages : (b : Bool) → has_pages ls ≡ b → IsRead k n p (cond b (paged ls) (unpaged ls))
    by_pages true e = paged_read k n ls p (and_parts (has Page (before Trailer ls)) (not (has Page (from Trailer ls))) e).0 c
    by_pages false e = unpaged_read k n ls p c

document_piece : (k n : ℕ) (text : List ℕ) → is_ended text ≡ true →
    Piece none_open (bytes_in (own_start k) n text) none_open (pages_structure n (count_in text))
unfolding bytes_in
document_piece k n text e = parts_read k n (behind_header (lines_in text)) (left_open text) (behind_chain text e)

-- ---- documents

pages_apart : (n a b : ℕ) → pages_structure n (a + b) ≡ pages_structure n a ++ pages_structure (n + a) b
pages_apart n zero b =
    let left : 0 + b ≡ b = omega arith in
    let right : n ≡ n + 0 = omega arith in
    ap (pages_structure n) left ∙ ap (λ (m : ℕ). pages_structure m b) right
pages_apart n (suc a) b =
    let left : suc a + b ≡ suc (a + b) = omega arith in
    let right : (n + 1) + a ≡ n + suc a = omega arith in
    ap (pages_structure n) left
    ∙ ap (λ (ls : List (List ℕ)). page_lines_of n ++ ls) (pages_apart (n + 1) a b ∙ ap (λ (m : ℕ). pages_structure (n + 1) a ++ pages_structure m b) right)

documents_start : (start : List ℕ) (n : ℕ) (ds : List (List ℕ)) → lf_comes (documents_bytes start n ds) ≡ false
unfolding bytes_in
documents_start start n [] = refl
documents_start start n (d ∷ ds) =
    lf-append (bytes_in start n (ended d)) (documents_bytes start (n + page_count d) ds)
    (pages_start start (frame_of (parts_in (ended d)) (left_open (ended d))) n (parts_in (ended d)).pages) (documents_start start (n + page_count d) ds)

documents_piece : (k n : ℕ) (ds : List (List ℕ)) → Piece none_open (documents_bytes (own_start k) n ds) none_open (pages_structure n (total ds))
documents_piece k n [] = no_piece none_open
documents_piece k n (d ∷ ds) =
    subst (λ (s : List (List ℕ)). Piece none_open (documents_bytes (own_start k) n (d ∷ ds)) none_open s) (sym (pages_apart n (page_count d) (total ds)))
    (then_other none_open none_open none_open (bytes_in (own_start k) n (ended d)) (documents_bytes (own_start k) (n + page_count d) ds)
    (pages_structure n (page_count d)) (pages_structure (n + page_count d) (total ds)) (documents_start (own_start k) (n + page_count d) ds)
    (document_piece k n (ended d) (ended_is d)) (documents_piece k (n + page_count d) ds))

-- ---- the whole

prolog_starts : (start : List ℕ) → lf_comes (prolog start) ≡ false
unfolding prolog
prolog_starts start = refl

setup_starts : (fonts : List ℕ) → lf_comes (setup fonts) ≡ false
unfolding setup
setup_starts fonts = refl

abbrev whole : List ℕ → List ℕ → List (List ℕ) → List ℕ
whole start fonts ds = header (total ds) ++ prolog start ++ setup fonts ++ documents_bytes start 1 ds ++ codes "%%Trailer\n%%EOF\n"

abbrev whole_structure : List (List ℕ) → List (List ℕ)
whole_structure ds = front_structure (total ds) ++ (pages_structure 1 (total ds) ++ codes "%%Trailer\n" ∷ codes "%%EOF\n" ∷ [])

abbrev front_lines : ℕ → List (List ℕ)
front_lines n = (codes "%%Pages: " ++ decimal n ++ codes "\n") ∷ codes "%%EndComments\n" ∷ []

whole_piece : (k : ℕ) (fonts : List ℕ) (ds : List (List ℕ)) → Piece none_open (whole (own_start k) fonts ds) none_open (whole_structure ds)
whole_piece k fonts ds =
    then_other none_open none_open none_open (header (total ds) ++ prolog (own_start k) ++ setup fonts ++ documents_bytes (own_start k) 1 ds)
    (codes "%%Trailer\n%%EOF\n") (front_structure (total ds) ++ pages_structure 1 (total ds)) (codes "%%Trailer\n" ∷ codes "%%EOF\n" ∷ []) refl
    (then_other none_open none_open none_open (header (total ds) ++ prolog (own_start k) ++ setup fonts) (documents_bytes (own_start k) 1 ds)
    (front_structure (total ds)) (pages_structure 1 (total ds)) (documents_start (own_start k) 1 ds)
    (then_other none_open none_open none_open (header (total ds) ++ prolog (own_start k)) (setup fonts)
    (front_lines (total ds) ++ codes "%%BeginProlog\n" ∷ codes "%%EndProlog\n" ∷ [])
    (codes "%%BeginSetup\n" ∷ codes "%%EndSetup\n" ∷ [])
    (setup_starts fonts)
    (then_other none_open none_open none_open (header (total ds)) (prolog (own_start k)) (front_lines (total ds))
    (codes "%%BeginProlog\n" ∷ codes "%%EndProlog\n" ∷ [])
    (prolog_starts (own_start k)) (header_piece (total ds)) (prolog_piece k))
    (setup_piece fonts))
    (documents_piece k 1 ds)) document_ends

joined_piece : (fonts : List ℕ) (ds : List (List ℕ)) → Piece none_open (joined_pages fonts ds) none_open (whole_structure ds)
unfolding joined_pages
joined_piece fonts ds =
    let start = names_start_is fonts ds in
    subst (λ (s : List ℕ). Piece none_open (whole s fonts ds) none_open (whole_structure ds)) (sym start.1) (whole_piece start.0 fonts ds)

pub pages_are_read : PagesAreRead
pages_are_read = record { closed = λ fonts ds. (joined_piece fonts ds).state; structure = λ fonts ds. (joined_piece fonts ds).lines }
