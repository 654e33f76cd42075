-- The lines that are the joined document's own, as pieces.
use Rattle.std.proofs.Common.{◌≡◌, ◌≤◌, ◌<◌, ◌+◌, ◌-◌, ℕ, zero, suc, ◌==◌, Bool, true, false, cond, List, [], ◌∷◌, ◌++◌, replicate, refl, ap, subst, ◌∙◌, arith}
use Rattle.std.proofs.lemmas.{List.Folds.{list_any-append}, Bool.{ne_eqb}}
use Rattle.std.specs.Fmt.{digits, digits_onto, digit_glyph}
use Rattle.std.specs.{Prelude.{◌/◌, ◌%◌, nat_lt, codes, decimal}, List.{list_any}}
use Rattle.t1_document.specs.{declared.marks.Open.{Open}, Lines.{lf_comes, is_line_end, lines_of, breaks}, Marks.{mark_of, kind_of}}
use Rattle.t1_document.specs.Documents.{none_open}
use Rattle.t1_dsc.specs.Structure.{role_of, open_with, lines_from, open_from}
use Rattle.t1_dsc.specs.Joining.{closing, times}
use Rattle.t1_dsc.proofs.Words.{differs, no_mark, text_role}
use Rattle.t1_dsc.proofs.Pieces.{Piece, no_piece, full_then, then_other, Full, lf_full, one_line}
use Rattle.t1_dsc.proofs.Chains.{any_line, text_in}

-- a full piece ends before each byte
pub full_ends : (t : List ℕ) → Full t → (b : ℕ) (bs : List ℕ) → (b == 10) ≡ false → breaks t (b ∷ bs) ≡ true
full_ends t f b bs h = f (b ∷ bs)

-- ---- lines of fixed bytes

fixed_piece : (t : List ℕ) (s : List (List ℕ)) → Full t → Piece none_open t none_open s → Piece none_open t none_open s
fixed_piece t s f x = x

pub setup_begins : Piece none_open (codes "%%BeginPageSetup\n") none_open (codes "%%BeginPageSetup\n" ∷ [])
unfolding lines_of lines_from open_from role_of mark_of kind_of
setup_begins = record { lines = refl; state = refl; ends = λ b bs h. lf_full (codes "%%BeginPageSetup") (b ∷ bs) }

pub setup_ends : Piece none_open (codes "%%EndPageSetup\n") none_open (codes "%%EndPageSetup\n" ∷ [])
unfolding lines_of lines_from open_from role_of mark_of kind_of
setup_ends = record { lines = refl; state = refl; ends = λ b bs h. lf_full (codes "%%EndPageSetup") (b ∷ bs) }

pub between_lines : Piece none_open (codes "%\n") none_open []
unfolding lines_of lines_from open_from role_of mark_of kind_of
between_lines = record { lines = refl; state = refl; ends = λ b bs h. lf_full (codes "%") (b ∷ bs) }

pub document_ends : Piece none_open (codes "%%Trailer\n%%EOF\n") none_open (codes "%%Trailer\n" ∷ codes "%%EOF\n" ∷ [])
unfolding lines_of lines_from open_from role_of mark_of kind_of
document_ends = record { lines = refl; state = refl; ends = λ b bs h. lf_full (codes "%%Trailer\n%%EOF") (b ∷ bs) }

pub setup_begun : Piece none_open (codes "%%BeginSetup\n") none_open (codes "%%BeginSetup\n" ∷ [])
unfolding lines_of lines_from open_from role_of mark_of kind_of
setup_begun = record { lines = refl; state = refl; ends = λ b bs h. lf_full (codes "%%BeginSetup") (b ∷ bs) }

pub setup_over : Piece none_open (codes "%%EndSetup\n") none_open (codes "%%EndSetup\n" ∷ [])
unfolding lines_of lines_from open_from role_of mark_of kind_of
setup_over = record { lines = refl; state = refl; ends = λ b bs h. lf_full (codes "%%EndSetup") (b ∷ bs) }

pub prolog_begun : Piece none_open (codes "%%BeginProlog\n") none_open (codes "%%BeginProlog\n" ∷ [])
unfolding lines_of lines_from open_from role_of mark_of kind_of
prolog_begun = record { lines = refl; state = refl; ends = λ b bs h. lf_full (codes "%%BeginProlog") (b ∷ bs) }

pub prolog_over : Piece none_open (codes "%%EndProlog\n") none_open (codes "%%EndProlog\n" ∷ [])
unfolding lines_of lines_from open_from role_of mark_of kind_of
prolog_over = record { lines = refl; state = refl; ends = λ b bs h. lf_full (codes "%%EndProlog") (b ∷ bs) }

pub version_line : Piece none_open (codes "%!PS-Adobe-3.0\n") none_open []
unfolding lines_of lines_from open_from role_of mark_of kind_of
version_line = record { lines = refl; state = refl; ends = λ b bs h. lf_full (codes "%!PS-Adobe-3.0") (b ∷ bs) }

pub comments_end : Piece none_open (codes "%%EndComments\n") none_open (codes "%%EndComments\n" ∷ [])
unfolding lines_of lines_from open_from role_of mark_of kind_of
comments_end = record { lines = refl; state = refl; ends = λ b bs h. lf_full (codes "%%EndComments") (b ∷ bs) }

-- ---- lines of names and numbers

-- bytes that end no line and don't begin with `%%`, and LF behind them
pub own_text : (u : List ℕ) → list_any is_line_end u ≡ false → differs (codes "%%") (u ++ 10 ∷ []) ≡ true → Piece none_open (u ++ 10 ∷ []) none_open []
own_text u h d =
    any_line none_open none_open (u ++ 10 ∷ []) (one_line u h) (text_role (u ++ 10 ∷ []) d) (ap (open_with none_open) (no_mark (u ++ 10 ∷ []) d))
    (λ b bs k. lf_full u (b ∷ bs))

-- ---- what ends what is open

document_closes : (o : Open) → Piece o (codes "%%EndDocument\n") (record { documents = o.documents - 1; raw = o.raw }) []
unfolding lines_of role_of mark_of kind_of
document_closes o =
    any_line o (record { documents = o.documents - 1; raw = o.raw }) (codes "%%EndDocument\n") refl (text_in o (codes "%%EndDocument\n") refl) refl
    (λ b bs h. lf_full (codes "%%EndDocument") (b ∷ bs))

data_closes : (o : Open) → Piece o (codes "%%EndData\n") (record { documents = o.documents; raw = o.raw - 1 }) []
unfolding lines_of role_of mark_of kind_of
data_closes o =
    any_line o (record { documents = o.documents; raw = o.raw - 1 }) (codes "%%EndData\n") refl (text_in o (codes "%%EndData\n") refl) refl
    (λ b bs h. lf_full (codes "%%EndData") (b ∷ bs))

documents_close : (n : ℕ) (o : Open) → o.documents ≤ n → Piece o (times n (codes "%%EndDocument\n")) (record { documents = 0; raw = o.raw }) []
documents_close zero o h =
    let none : o.documents ≡ 0 = omega (arith, h) in
    subst (λ (d : ℕ). Piece o [] (record { documents = d; raw = o.raw }) []) none (no_piece o)
documents_close (suc n) o h =
    full_then o (record { documents = o.documents - 1; raw = o.raw }) (record { documents = 0; raw = o.raw }) (codes "%%EndDocument\n")
    (times n (codes "%%EndDocument\n")) [] [] (lf_full (codes "%%EndDocument")) (document_closes o)
    (documents_close n (record { documents = o.documents - 1; raw = o.raw }) (omega (arith, h)))

data_close : (n : ℕ) (o : Open) → o.raw ≤ n → Piece o (times n (codes "%%EndData\n")) (record { documents = o.documents; raw = 0 }) []
data_close zero o h =
    let none : o.raw ≡ 0 = omega (arith, h) in
    subst (λ (d : ℕ). Piece o [] (record { documents = o.documents; raw = d }) []) none (no_piece o)
data_close (suc n) o h =
    full_then o (record { documents = o.documents; raw = o.raw - 1 }) (record { documents = o.documents; raw = 0 }) (codes "%%EndData\n")
    (times n (codes "%%EndData\n")) [] [] (lf_full (codes "%%EndData")) (data_closes o)
    (data_close n (record { documents = o.documents; raw = o.raw - 1 }) (omega (arith, h)))

starts_so : (n : ℕ) → lf_comes (times n (codes "%%EndData\n")) ≡ false
starts_so zero = refl
starts_so (suc n) = refl

-- the ends of what is open end as much as that
pub closing_piece : (o p : Open) → o.documents ≤ p.documents → o.raw ≤ p.raw → Piece o (closing p) none_open []
closing_piece o p h k =
    then_other o (record { documents = 0; raw = o.raw }) none_open (times p.documents (codes "%%EndDocument\n")) (times p.raw (codes "%%EndData\n")) [] []
    (starts_so p.raw) (documents_close p.documents o h) (data_close p.raw (record { documents = 0; raw = o.raw }) k)

pub closing_starts : (p : Open) → lf_comes (closing p) ≡ false
closing_starts p = by_count p.documents
  where
    by_count : (n : ℕ) → lf_comes (times n (codes "%%EndDocument\n") ++ times p.raw (codes "%%EndData\n")) ≡ false
    by_count zero = starts_so p.raw
    by_count (suc n) = refl

-- ---- bytes that end no line

abbrev pub NoEnds : List ℕ → Type 0
NoEnds u = list_any is_line_end u ≡ false

pub noends-append : (u v : List ℕ) → NoEnds u → NoEnds v → NoEnds (u ++ v)
noends-append u v h k = list_any-append is_line_end u v ∙ rw (h, k) refl

pub colons_noends : (n : ℕ) → NoEnds (replicate n 58)
colons_noends zero = refl
colons_noends (suc n) = colons_noends n

above_ends : (a d : ℕ) → 13 < a → is_line_end (a + d) ≡ false
above_ends a d h = rw (
  ne_eqb (a + d) 10 (λ e. let no_sum : ⊥ = omega (arith, e, h) in no_sum),
  ne_eqb (a + d) 13 (λ e. let no_sum : ⊥ = omega (arith, e, h) in no_sum),
) refl

glyph_noends : (d : ℕ) → is_line_end (digit_glyph false d) ≡ false
glyph_noends d = by_size (nat_lt d 10)
  where
    by_size : (b : Bool) → is_line_end (cond b (48 + d) (87 + d)) ≡ false
    by_size true = above_ends 48 d (omega arith)
    by_size false = above_ends 87 d (omega arith)

onto_noends : (k n : ℕ) (acc : List ℕ) → NoEnds acc → NoEnds (digits_onto k 10 false n acc)
onto_noends zero n acc h = h
onto_noends (suc k) n acc h = by_last (n / 10 == 0) (onto_noends k (n / 10) (digit_glyph false (n % 10) ∷ acc) one_more)
  where
    one_more : NoEnds (digit_glyph false (n % 10) ∷ acc)
    one_more = rw (glyph_noends (n % 10)) h

    by_last : (b : Bool) → NoEnds (digits_onto k 10 false (n / 10) (digit_glyph false (n % 10) ∷ acc)) →
        NoEnds (cond b (digit_glyph false (n % 10) ∷ acc) (digits_onto k 10 false (n / 10) (digit_glyph false (n % 10) ∷ acc)))
    by_last true later = one_more
    by_last false later = later

pub decimal_noends : (n : ℕ) → NoEnds (decimal n)
unfolding digits
decimal_noends n = onto_noends 64 n [] refl
