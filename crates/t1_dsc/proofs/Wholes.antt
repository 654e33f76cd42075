-- The parts of a document are the whole document.
use Rattle.std.proofs.Common.{◌≡◌, ℕ, Bool, true, List, [], ◌∷◌, ◌++◌, take, drop, refl, sym, ap, ◌∙◌, inl, inr, append_assoc, one-add}
use Rattle.std.proofs.lemmas.{Bool.{cases_Bool}, List.{append-nil, take-append-drop}, List.Sums.{take_while-cons}}
use Rattle.std.specs.{Prelude.{not}, List.{prefix_len, list_all, concat}}
use Rattle.t1_document.{specs.{declared.marks.Open.{Open}, Lines.{lines_of}, Documents.{none_open}}, proofs.LineLemmas.{lines_joined}}
use Rattle.t1_dsc.specs.{declared.lines.Role.TheVariants.{Page, Trailer}, Structure.{Line, same_role, open_past, lines_from, lines_in}}
use Rattle.t1_dsc.specs.Parts.{before, from, is_header, header_len, pages_in, has_pages, parts_of}
use Rattle.t1_dsc.specs.{Joining.{ended}, Laws.{texts, page_lines, part_lines, PartsAreWhole}}

-- what comes first and passes a test passes it
pub all_first : {X : Type 0} (p : X → Bool) (xs : List X) → list_all p (take (prefix_len p xs) xs) ≡ true
all_first p [] = refl
all_first p (x ∷ xs) = elim (cases_Bool (p x)) [
  | inl e ↦ rw (e, one-add) (rw e (all_first p xs))
  | inr e ↦ rw e refl
]

-- the texts of lines on both sides
pub texts-append : (xs ys : List Line) → texts (xs ++ ys) ≡ texts xs ++ texts ys
texts-append [] ys = refl
texts-append (x ∷ xs) ys = ap (λ (t : List ℕ). x.text ++ t) (texts-append xs ys) ∙ sym (append_assoc x.text (texts xs) (texts ys))

pub texts_are : (o : Open) (ls : List (List ℕ)) → texts (lines_from o ls) ≡ concat ls
unfolding lines_from
texts_are o [] = refl
texts_are o (l ∷ ls) = ap (λ (t : List ℕ). l ++ t) (texts_are (open_past o l) ls)

-- the lines before the first page and those of the pages are all of them
pub pages_cover : (ls : List Line) → before Page ls ++ page_lines (pages_in ls) ≡ ls
pages_cover [] = refl
pages_cover (l ∷ ls) = elim (cases_Bool (same_role Page l.role)) [
  | inl e ↦ rw e (ap (λ (ks : List Line). l ∷ ks) (pages_cover ls))
  | inr e ↦ rw (take_while-cons (λ k. not (same_role Page k.role)) l ls, e) (ap (λ (ks : List Line). l ∷ ks) (pages_cover ls))
]

-- so are those of the parts
pub parts_cover : (ls : List Line) → part_lines (parts_of ls) ≡ ls
parts_cover ls = elim (cases_Bool (has_pages ls)) [
  | inl e ↦
      rw e (sym (append_assoc (before Page (before Trailer ls)) (page_lines (pages_in (before Trailer ls))) (from Trailer ls))
      ∙ (ap (λ (ks : List Line). ks ++ from Trailer ls) (pages_cover (before Trailer ls)) ∙ take-append-drop _ ls))
  | inr e ↦ rw e (append-nil (ls ++ []) ∙ append-nil ls)
]

lines_whole : (text : List ℕ) →
    texts (take (header_len (lines_in text)) (lines_in text)) ++ texts (part_lines (parts_of (drop (header_len (lines_in text)) (lines_in text)))) ≡ text
lines_whole text =
    let ls = lines_in text in
    let n = header_len ls in
    ap (λ (ks : List Line). texts (take n ls) ++ texts ks) (parts_cover (drop n ls))
    ∙ (sym (texts-append (take n ls) (drop n ls)) ∙ (ap texts (take-append-drop n ls) ∙ (texts_are none_open (lines_of text) ∙ lines_joined text)))

pub parts_are_whole : PartsAreWhole
parts_are_whole = record {
  comments = λ text. all_first (λ l. is_header l.text) (lines_in (ended text));
  whole = λ text. lines_whole (ended text);
}
