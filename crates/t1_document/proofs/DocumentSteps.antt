-- The places of a document, from stretch to stretch.
use Rattle.std.proofs.Common.{◌≡◌, ℕ, ◌+◌, ◌-◌, ◌<◌, ◌≤◌, ◌^◌, Bool, true, false, cond, List, [], ◌∷◌, ◌++◌, length, take, drop, Option, Some, None, refl, sym, ap, ◌∙◌, arith, append_assoc}
use Rattle.std.proofs.lemmas.List.{append-nil, length-append, length-drop, take-append-drop, take_at}
use Rattle.t1_document.specs.{declared.marks.Side.{Side}, declared.marks.Side.TheVariants.{Begin, End}, declared.marks.Mark.{Mark}, declared.marks.Open.{Open}, Lines.{line_of}}
use Rattle.t1_document.specs.{Marks.{mark_of, open_count, holds_data, is_document}, Stretches.{Stretch, Stretches, stretches, stretches_bytes}}
use Rattle.t1_font.specs.FontModel.{clamp}
use Rattle.t1_document.specs.Documents.{Place, Document, none_open, open_behind, clamped, next_mark, place_at, prepended, at_stretch, document_from, document_of}
use Rattle.t1_document.proofs.StretchLemmas.{no_more, no_stretches, front_whole, behind_front}

-- nothing before a document
pub prepended-nil : (d : Document) → prepended [] d ≡ d
prepended-nil d = by_places d.places d.last
  where
    by_places : (ps : List Place) (last : List ℕ) → prepended [] (record { places = ps; last = last }) ≡ record { places = ps; last = last }
    by_places [] last = refl
    by_places (p ∷ ps) last = refl

-- bytes before bytes before a document
pub prepended-prepended : (a b : List ℕ) (d : Document) → prepended a (prepended b d) ≡ prepended (a ++ b) d
prepended-prepended a b d = by_places d.places d.last
  where
    by_places : (ps : List Place) (last : List ℕ) →
        prepended a (prepended b (record { places = ps; last = last })) ≡ prepended (a ++ b) (record { places = ps; last = last })
    by_places [] last = ap (λ (t : List ℕ). record { places = []; last = t }) (sym (append_assoc a b last))
    by_places (p ∷ ps) last = ap (λ (t : List ℕ). record { places = record p { before = t } ∷ ps; last = last }) (sym (append_assoc a b p.before))

-- places before a document
abbrev pub after : List Place → Document → Document
after done d = record { places = done ++ d.places; last = d.last }

-- where these bytes are left, behind bytes that belong to no place that is done
pub record Walks (text here rest : List ℕ) (o : Open) (done : List Place) : Type 0 where
  pub mid : List ℕ
  pub parts : here ≡ mid ++ rest
  pub begins : (stretches rest).0 ≡ []
  pub whole : document_of text ≡ after done (prepended mid (document_from o (stretches rest).1))
  pub documents : o.documents + length rest ≤ length text
  pub raw : o.raw + length rest ≤ length text

-- at the start of a text, behind what stands before its first mark
pub walk_starts : (text rest : List ℕ) → rest ≡ drop (length (stretches text).0) text → Walks text text rest none_open []
unfolding document_of
walk_starts text rest e =
    let x = stretches text in
    let left : stretches rest ≡ ([], x.1) = ap stretches e ∙ behind_front text in
    let few : length rest ≤ length text = omega (arith, ap length e, length-drop (length x.0) text) in
    record {
      mid = x.0;
      parts = sym (take-append-drop (length x.0) text) ∙ (ap (λ (u : List ℕ). u ++ drop (length x.0) text) front ∙ ap (λ (u : List ℕ). x.0 ++ u) (sym e));
      begins = ap (λ (y : Stretches). y.0) left;
      whole = ap (λ (y : Stretches). prepended x.0 (document_from none_open y.1)) (sym left);
      documents = omega (arith, few);
      raw = omega (arith, few);
    }
  where
    front : take (length (stretches text).0) text ≡ (stretches text).0
    front = ap (take (length (stretches text).0)) (front_whole text) ∙ take_at (stretches text).0 (stretches_bytes (stretches text).1) _ refl

-- what is known of the stretch that comes next
pub record Comes (rest behind : List ℕ) (s : Stretch) : Type 0 where
  pub first : stretches rest ≡ ([], s ∷ (stretches behind).1)
  pub whole : rest ≡ s.line ++ (s.text ++ behind)
  pub none : (stretches behind).0 ≡ []
  pub shorter : length behind < length rest

counted_le : (side : Side) (n : ℕ) → open_count side n ≤ n + 1
counted_le Begin n = omega arith
counted_le End n = omega arith

if_le : (b : Bool) (side : Side) (n : ℕ) → cond b (open_count side n) n ≤ n + 1
if_le true side n = counted_le side n
if_le false side n = omega arith

fewer : (text rest behind : List ℕ) (n k : ℕ) → n + length rest ≤ length text → length behind < length rest → k ≤ n + 1 → k + length behind ≤ length text
fewer text rest behind n k h l m = omega arith

-- the document from where this stretch comes on
from_here : (rest behind : List ℕ) (s : Stretch) (o : Open) → Comes rest behind s →
    document_from o (stretches rest).1
    ≡ at_stretch s (place_at o s (next_mark (stretches behind).1)) (document_from (open_behind o s.mark) (stretches behind).1)
unfolding document_from
from_here rest behind s o comes = ap (λ (x : Stretches). document_from o x.1) comes.first

-- past a stretch that is no place
pub walk_past : (text here rest behind : List ℕ) (o : Open) (done : List Place) (s : Stretch) → Walks text here rest o done → Comes rest behind s →
    place_at o s (next_mark (stretches behind).1) ≡ None → Walks text here behind (open_behind o s.mark) done
walk_past text here rest behind o done s w comes none =
    let d = document_from (open_behind o s.mark) (stretches behind).1 in
    let own = s.line ++ s.text in
    let on : document_from o (stretches rest).1 ≡ prepended own d =
    from_here rest behind s o comes ∙ ap (λ (p : Option Place). at_stretch s p d) none in
    record {
      mid = w.mid ++ own;
      parts = w.parts ∙ (ap (λ (u : List ℕ). w.mid ++ u) (comes.whole ∙ sym (append_assoc s.line s.text behind)) ∙ sym (append_assoc w.mid own behind));
      begins = comes.none;
      whole = w.whole ∙ ap (after done) (ap (prepended w.mid) on ∙ prepended-prepended w.mid own d);
      documents = fewer text rest behind o.documents (open_behind o s.mark).documents w.documents comes.shorter
          (if_le (is_document s.mark.kind) s.mark.side o.documents);
      raw = fewer text rest behind o.raw (open_behind o s.mark).raw w.raw comes.shorter (if_le (holds_data s.mark.kind) s.mark.side o.raw);
    }

-- what stands before the text of a stretch
before_text : (here mid line text behind : List ℕ) → here ≡ mid ++ (line ++ (text ++ behind)) →
    take (length here - length behind - length text) here ≡ mid ++ line
before_text here mid line text behind e =
    let whole : here ≡ (mid ++ line) ++ (text ++ behind) = e ∙ sym (append_assoc mid line (text ++ behind)) in
    let n : length here - length behind - length text ≡ length (mid ++ line) =
    omega (arith, ap length whole, length-append (mid ++ line) (text ++ behind), length-append text behind) in
    ap (λ (k : ℕ). take k here) n ∙ (ap (take (length (mid ++ line))) whole ∙ take_at (mid ++ line) (text ++ behind) _ refl)

-- past a place
pub walk_place : (text here rest behind : List ℕ) (o : Open) (done : List Place) (s : Stretch) (p : Place) (before : List ℕ) →
    Walks text here rest o done → Comes rest behind s → place_at o s (next_mark (stretches behind).1) ≡ Some p → p.before ≡ s.line →
    before ≡ take (length here - length behind - length s.text) here →
    Walks text behind behind (open_behind o s.mark) (done ++ record p { before = before } ∷ [])
walk_place text here rest behind o done s p before w comes is line front =
    let d = document_from (open_behind o s.mark) (stretches behind).1 in
    let on : document_from o (stretches rest).1 ≡ record { places = p ∷ d.places; last = d.last } =
    from_here rest behind s o comes ∙ ap (λ (q : Option Place). at_stretch s q d) is in
    let own : w.mid ++ p.before ≡ before =
    ap (λ (u : List ℕ). w.mid ++ u) line
    ∙ sym (front ∙ before_text here w.mid s.line s.text behind (w.parts ∙ ap (λ (u : List ℕ). w.mid ++ u) comes.whole)) in
    let whole : document_of text ≡ after done (record { places = record p { before = before } ∷ d.places; last = d.last }) =
    w.whole ∙ (ap (λ (e : Document). after done (prepended w.mid e)) on
    ∙ ap (λ (u : List ℕ). after done (record { places = record p { before = u } ∷ d.places; last = d.last })) own) in
    record {
      mid = [];
      parts = refl;
      begins = comes.none;
      whole = whole ∙ (ap (λ (ps : List Place). record { places = ps; last = d.last }) (sym (append_assoc done (record p { before = before } ∷ []) d.places))
          ∙ ap (after (done ++ record p { before = before } ∷ [])) (sym (prepended-nil d)));
      documents = fewer text rest behind o.documents (open_behind o s.mark).documents w.documents comes.shorter
          (if_le (is_document s.mark.kind) s.mark.side o.documents);
      raw = fewer text rest behind o.raw (open_behind o s.mark).raw w.raw comes.shorter (if_le (holds_data s.mark.kind) s.mark.side o.raw);
    }

nothing_from : (o : Open) → document_from o [] ≡ record { places = []; last = [] }
unfolding document_from
nothing_from o = refl

-- at the end of the text
pub walk_ends : (text here rest : List ℕ) (o : Open) (done : List Place) → Walks text here rest o done → mark_of (line_of rest).0 ≡ None →
    document_of text ≡ record { places = done; last = here }
walk_ends text here rest o done w none =
    let end : rest ≡ [] = no_more rest w.begins none in
    let on : document_from o (stretches rest).1 ≡ record { places = []; last = [] } =
    ap (λ (u : List ℕ). document_from o (stretches u).1) end ∙ (ap (λ (x : Stretches). document_from o x.1) no_stretches ∙ nothing_from o) in
    w.whole ∙ (ap (λ (d : Document). after done (prepended w.mid d)) on
    ∙ (ap (λ (ps : List Place). record { places = ps; last = w.mid ++ [] }) (append-nil done)
    ∙ ap (λ (u : List ℕ). record { places = done; last = u }) (sym (w.parts ∙ ap (λ (u : List ℕ). w.mid ++ u) end))))

-- the same of values that are the same
pub walks_same : (text here same_here rest : List ℕ) (o same_o : Open) (done same_done : List Place) →
    same_here ≡ here → same_o ≡ o → same_done ≡ done → Walks text here rest o done → Walks text same_here rest same_o same_done
walks_same text here same_here rest o same_o done same_done e h k w = rw (e, h, k) w

-- what 64 bits count is so
few : (n : ℕ) → n < 2 ^ 64 → clamp n ≡ n
few n h = omega (arith, h)

both_few : (o : Open) → o.documents < 2 ^ 64 → o.raw < 2 ^ 64 → clamped o ≡ o
both_few o d r = λ i. record { documents = few o.documents d i; raw = few o.raw r i }

-- in a text whose length 64 bits count they count what is open
pub clamped_is : (o : Open) (text behind : List ℕ) → o.documents + length behind ≤ length text → o.raw + length behind ≤ length text →
    length text < 2 ^ 64 → clamped o ≡ o
clamped_is o text behind d r h = both_few o (omega (arith, d, h)) (omega (arith, r, h))

-- where they count one more of each, they count what is open behind a mark
pub clamped_behind : (o : Open) (m : Mark) → o.documents + 1 < 2 ^ 64 → o.raw + 1 < 2 ^ 64 → clamped (open_behind o m) ≡ open_behind o m
clamped_behind o m d r =
    both_few (open_behind o m) (omega (arith, if_le (is_document m.kind) m.side o.documents, d)) (omega (arith, if_le (holds_data m.kind) m.side o.raw, r))
