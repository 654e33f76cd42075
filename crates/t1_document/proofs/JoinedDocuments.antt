-- The document of a text behind another.
use Rattle.std.proofs.{Common.{◌≡◌, ℕ, Bool, true, false, cond, List, [], ◌∷◌, ◌++◌, Option, Some, None, refl, sym, ap, ◌∙◌, append_assoc}, lemmas.List.{append-nil}}
use Rattle.std.specs.{Prelude.{◌==◌, ◌&&◌}, Option.{option_map}}
use Rattle.t1_document.specs.{declared.marks.Open.{Open}, declared.marks.Mark.{Mark}, Lines.{lines_of, breaks}, Marks.{mark_of, holds_fonts, same_kind}}
use Rattle.t1_document.specs.{Stretches.{Stretch, Stretches, at_line, gathered, stretches}, Fonts.{font_in}}
use Rattle.t1_document.specs.Documents.{Place, Document, none_open, open_behind, begins_part, ends_part, next_mark, place_with, place_at, prepended, at_stretch, document_from, document_of_stretches}
use Rattle.t1_document.specs.Documents.{document_of, open_at_end, ends_in_part, IsClosed, followed}
use Rattle.t1_document.proofs.{LineLemmas.{lines_apart}, DocumentSteps.{prepended-prepended}}

-- ---- the stretches of both

-- stretches behind one, whose text goes on
pub glue : Stretch → List Stretch → Stretches → List Stretch
glue s [] y = record s { text = s.text ++ y.0 } ∷ y.1
glue s (u ∷ us) y = s ∷ glue u us y

-- stretches behind others
abbrev pub follow : List ℕ → List Stretch → Stretches → Stretches
follow f [] y = (f ++ y.0, y.1)
follow f (s ∷ ss) y = (f, glue s ss y)

line_follows : (line : List ℕ) (m : Option Mark) (f : List ℕ) (ss : List Stretch) (y : Stretches) →
    at_line line m (follow f ss y) ≡ follow (at_line line m (f, ss)).0 (at_line line m (f, ss)).1 y
unfolding glue
line_follows line None f [] y = ap (λ (t : List ℕ). (t, y.1)) (sym (append_assoc line f y.0))
line_follows line None f (s ∷ ss) y = refl
line_follows line (Some m) f [] y = refl
line_follows line (Some m) f (s ∷ ss) y = refl

gathered_follows : (xs ys : List (List ℕ)) → gathered (xs ++ ys) ≡ follow (gathered xs).0 (gathered xs).1 (gathered ys)
gathered_follows [] ys = refl
gathered_follows (line ∷ xs) ys =
    ap (at_line line (mark_of line)) (gathered_follows xs ys) ∙ line_follows line (mark_of line) (gathered xs).0 (gathered xs).1 (gathered ys)

-- the stretches of two texts between which a line ends
stretches_follow : (a b : List ℕ) → breaks a b ≡ true → stretches (a ++ b) ≡ follow (stretches a).0 (stretches a).1 (stretches b)
unfolding stretches
stretches_follow a b h = ap gathered (lines_apart a b h) ∙ gathered_follows (lines_of a) (lines_of b)

-- ---- the document of both

-- bytes before a document that another follows
prepended_followed : (b : List ℕ) (d e : Document) → prepended b (followed d e) ≡ followed (prepended b d) e
prepended_followed b d e = by_places d.places d.last
  where
    by_places : (ps : List Place) (last : List ℕ) →
        prepended b (followed (record { places = ps; last = last }) e) ≡ followed (prepended b (record { places = ps; last = last })) e
    by_places [] last = prepended-prepended b last e
    by_places (p ∷ ps) last = refl

stretch_followed : (s : Stretch) (q : Option Place) (d e : Document) → at_stretch s q (followed d e) ≡ followed (at_stretch s q d) e
stretch_followed s None d e = prepended_followed (s.line ++ s.text) d e
stretch_followed s (Some p) d e = refl

-- a stretch that begins no part is no place
pub begins_no_place : (o : Open) (s : Stretch) (next : Option Mark) → (begins_part s.mark.side && holds_fonts s.mark.kind) ≡ false → place_at o s next ≡ None
begins_no_place o s None h = refl
begins_no_place o s (Some next) h =
    ap (λ (b : Bool). cond (b && ends_part next.side && same_kind s.mark.kind next.kind && (o.raw == 0)) (option_map (place_with o s) (font_in s.text)) None) h

next_glued : (u : Stretch) (us : List Stretch) (y : Stretches) → next_mark (glue u us y) ≡ Some u.mark
unfolding glue
next_glued u [] y = refl
next_glued u (t ∷ us) y = refl

glued_document : (o : Open) (s : Stretch) (ss : List Stretch) (y : Stretches) → ends_in_part (s ∷ ss) ≡ false →
    document_from o (glue s ss y) ≡ followed (document_from o (s ∷ ss)) (prepended y.0 (document_from (open_at_end o (s ∷ ss)) y.1))
unfolding glue document_from
glued_document o s [] y h =
    let behind = document_from (open_behind o s.mark) y.1 in
    let t = record s { text = s.text ++ y.0 } in
    ap (λ (q : Option Place). at_stretch t q behind) (begins_no_place o t (next_mark y.1) h)
    ∙ (ap (λ (u : List ℕ). prepended u behind) (sym (append_assoc s.line s.text y.0) ∙ ap (λ (u : List ℕ). u ++ y.0) (sym (append-nil (s.line ++ s.text))))
    ∙ (sym (prepended-prepended ((s.line ++ s.text) ++ []) y.0 behind)
    ∙ ap (λ (q : Option Place). followed (at_stretch s q (record { places = []; last = [] })) (prepended y.0 behind)) (sym (begins_no_place o s None h))))
glued_document o s (u ∷ us) y h =
    let behind = open_behind o s.mark in
    let e = prepended y.0 (document_from (open_at_end behind (u ∷ us)) y.1) in
    ap (λ (m : Option Mark). at_stretch s (place_at o s m) (document_from behind (glue u us y))) (next_glued u us y)
    ∙ (ap (at_stretch s (place_at o s (Some u.mark))) (glued_document behind u us y h)
    ∙ stretch_followed s (place_at o s (Some u.mark)) (document_from behind (u ∷ us)) e)

follow_document : (f : List ℕ) (ss : List Stretch) (y : Stretches) → open_at_end none_open ss ≡ none_open → ends_in_part ss ≡ false →
    document_of_stretches (follow f ss y) ≡ followed (document_of_stretches (f, ss)) (document_of_stretches y)
unfolding document_from
follow_document f [] y balanced part =
    let behind = document_from none_open y.1 in
    ap (λ (u : List ℕ). prepended (u ++ y.0) behind) (sym (append-nil f)) ∙ sym (prepended-prepended (f ++ []) y.0 behind)
follow_document f (s ∷ ss) y balanced part =
    ap (prepended f) (glued_document none_open s ss y part
    ∙ ap (λ (o : Open). followed (document_from none_open (s ∷ ss)) (prepended y.0 (document_from o y.1))) balanced)
    ∙ prepended_followed f (document_from none_open (s ∷ ss)) (document_of_stretches y)

-- the document of both
pub joined_documents : (a b : List ℕ) → breaks a b ≡ true → IsClosed a → document_of (a ++ b) ≡ followed (document_of a) (document_of b)
unfolding document_of
joined_documents a b h closed =
    ap document_of_stretches (stretches_follow a b h) ∙ follow_document (stretches a).0 (stretches a).1 (stretches b) closed.balanced closed.part
