-- What is read of a file is its flat text by its bytes, and the fault the place where it is bad.
use Rattle.std.proofs.Common.{◌≡◌, ℕ, Bool, true, false, true≢false, List, [], ◌∷◌, ◌++◌, length, inl, inr, refl, sym, ap, ap₂, subst, ◌∙◌, append_assoc, arith}
use Rattle.std.proofs.lemmas.{Bool.{cases_Bool, eqb-true}, Slice.Eq.{bytes_eq-Decides}, List.{length-append}}
use Rattle.std.specs.{Prelude.{◌⊎◌, ◌||◌}, Str.{bytes_eq}}
use Rattle.t1_grammar.specs.{Grammar.{AtFront, pure, ◌>>◌, before, unspelled}, Tables.{Entries, BreaksOff}}
use Rattle.t1_bytes.specs.Segments.{IsSegment, AreSegments, EndComes, segment, end, is_nil}
use Rattle.t1_bytes.specs.{FlatText.{IsSegmented, IsFlat, itself, of_segments, IsBad, starts_segment, flat_when, flat_text}, Laws.{ReadsFlat}}

-- ---- segments

two_kinds : (kind : List ℕ) → (bytes_eq kind (1 ∷ []) || bytes_eq kind (2 ∷ [])) ≡ true → (k : ℕ) × (kind ≡ k ∷ []) × ((k ≡ 1) ⊎ (k ≡ 2))
two_kinds kind h = elim (cases_Bool (bytes_eq kind (1 ∷ []))) [
  | inl e ↦ (1, (bytes_eq-Decides kind (1 ∷ [])).0 e, inl refl)
  | inr e ↦ (2, (bytes_eq-Decides kind (2 ∷ [])).0 (rw e at h), inr refl)
]

is_kind : (k : ℕ) → (k ≡ 1) ⊎ (k ≡ 2) → (bytes_eq (k ∷ []) (1 ∷ []) || bytes_eq (k ∷ []) (2 ∷ [])) ≡ true
is_kind k (inl e) = rw e refl
is_kind k (inr e) = rw e refl

segment_said : (piece text rest : List ℕ) → segment.Spells piece text rest → IsSegment text piece
segment_said piece text rest s =
    let k = two_kinds s.5.0 s.5.4.1 in
    let mark : s.1 ≡ 128 ∷ [] = s.4.0.0 ∙ sym ((bytes_eq-Decides (128 ∷ []) s.0).0 s.4.1) in
    let kind : s.5.1 ≡ k.0 ∷ [] = s.5.4.0.0 ∙ k.1 in
    let body : s.5.2 ≡ s.5.5.0 ++ piece = s.5.5.3 ∙ ap₂ (λ (x y : List ℕ). x ++ y) s.5.5.4.0 s.5.5.5.0 in
    let behind : s.2 ≡ k.0 ∷ (s.5.5.0 ++ piece) = s.5.3 ∙ ap₂ (λ (x y : List ℕ). x ++ y) kind body in
    record {
      kind = k.0;
      len = s.5.5.0;
      parts = s.3 ∙ ap₂ (λ (x y : List ℕ). x ++ y) mark behind;
      text_or_binary = k.2;
      four = s.5.5.4.1;
      size = s.5.5.5.1;
    }

said_segment : (piece text rest : List ℕ) → IsSegment text piece → segment.Spells piece text rest
said_segment piece text rest s = (
  128 ∷ [],
  128 ∷ [],
  s.kind ∷ (s.len ++ piece),
  s.parts,
  ((refl, refl), refl),
  (
    s.kind ∷ [],
    s.kind ∷ [],
    s.len ++ piece,
    refl,
    ((refl, refl), is_kind s.kind s.text_or_binary),
    (s.len, s.len, piece, refl, (refl, s.four), (refl, s.size)),
  ),
)

segments_said : (pieces : List (List ℕ)) (text rest : List ℕ) → Entries segment pieces text rest → AreSegments text pieces
segments_said [] text rest s = s
segments_said (p ∷ ps) text rest s = (s.0, s.1, s.2, segment_said p s.0 (s.1 ++ rest) s.3, segments_said ps s.1 rest s.4)

said_segments : (pieces : List (List ℕ)) (text rest : List ℕ) → AreSegments text pieces → Entries segment pieces text rest
said_segments [] text rest s = s
said_segments (p ∷ ps) text rest s = (s.0, s.1, s.2, said_segment p s.0 (s.1 ++ rest) s.3, said_segments ps s.1 rest s.4)

-- ---- their end

no_bytes : (bytes : List ℕ) → is_nil bytes ≡ true → bytes ≡ []
no_bytes [] h = refl
no_bytes (b ∷ bs) h = absurd (true≢false (sym h))

end_said : (x text rest : List ℕ) → end.Spells x text rest → EndComes (text ++ rest)
end_said x text rest (inl s) = inl (ap (λ (u : List ℕ). u ++ rest) (s.3 ∙ ap (λ (u : List ℕ). u ++ s.2) s.4.0) ∙ no_bytes (s.2 ++ rest) s.4.1)
end_said x text rest (inr s) =
    inr (rest, ap (λ (u : List ℕ). u ++ rest) (s.0.0.0 ∙ sym ((bytes_eq-Decides (128 ∷ 3 ∷ []) x).0 s.0.1)))

said_end : (bytes : List ℕ) → EndComes bytes → (x : List ℕ × List ℕ) × AtFront end bytes x
said_end bytes (inl e) =
    (([], []), subst (λ (u : List ℕ). AtFront end u ([], [])) (sym e) ([], refl, inl (tt, [], [], refl, (refl, refl), (refl, refl))))
said_end bytes (inr e) =
    ((128 ∷ 3 ∷ [], e.0), (128 ∷ 3 ∷ [], e.1, inr (((refl, refl), refl), unspelled (before is_nil >> pure []) (128 ∷ (3 ∷ e.0)) refl)))

-- ---- the flat text

segmented : (file : List ℕ) → starts_segment file ≡ true → IsSegmented file
segmented [] h = absurd (true≢false (sym h))
segmented (b ∷ bs) h = (bs, ap (λ (k : ℕ). k ∷ bs) (eqb-true b 128 h))

starts : (file : List ℕ) → IsSegmented file → starts_segment file ≡ true
starts file s = ap starts_segment s.1

-- what the reading of a file spells is its flat text
pub flat_said : (file flat : List ℕ) → (flat_text file).Spells flat → IsFlat file flat
flat_said file flat s = by_start (starts_segment file) refl s
  where
    by_start : (b : Bool) → starts_segment file ≡ b → (flat_when b file).Spells flat → IsFlat file flat
    by_start true e j =
        let t = j.1.2 in
        let left : List ℕ = t.1 ++ j.0.2 in
        of_segments t.0 left j.0.0 (segmented file e) (j.1.1 ∙ (ap (λ (u : List ℕ). u ++ j.0.2) t.2 ∙ append_assoc t.0 t.1 j.0.2))
        (segments_said j.0.0 t.0 left t.3) (end_said j.0.1 t.1 j.0.2 t.4) (sym j.2)
    by_start false e j = itself (λ s. true≢false (sym (starts file s) ∙ e)) (sym j)

-- and the other way round
pub said_flat : (file flat : List ℕ) → IsFlat file flat → (flat_text file).Spells flat
said_flat file flat (itself other e) = elim (cases_Bool (starts_segment file)) [
  | inl y ↦ absurd (other (segmented file y))
  | inr n ↦ subst (λ (b : Bool). (flat_when b file).Spells flat) (sym n) (sym e)
]
said_flat file flat (of_segments text left pieces first parts segments ends e) =
    let c = said_end left ends in
    let own : List ℕ = c.1.0 in
    let rest : List ℕ = c.0.1 in
    let whole : file ≡ (text ++ own) ++ rest = parts ∙ (ap (λ (u : List ℕ). text ++ u) c.1.1 ∙ sym (append_assoc text own rest)) in
    subst (λ (b : Bool). (flat_when b file).Spells flat) (sym (starts file first))
    ((pieces, c.0.0, rest), (text ++ own, whole, (text, own, refl, said_segments pieces text (own ++ rest) segments, c.1.2)), sym e)

-- ---- the place where a file is bad

-- the reason why the reading of a file spells nothing is the place where it is bad
pub bad_said : (file : List ℕ) (at : ℕ) → (flat_text file).Reason at → IsBad file at
bad_said file at s = by_start (starts_segment file) refl s
  where
    by_start : (b : Bool) → starts_segment file ≡ b → (flat_when b file).Reason at → IsBad file at
    by_start true e (inl (left, r, place)) = record {
      text = r.front;
      left = left;
      pieces = r.xs;
      segmented = segmented file e;
      parts = r.parts;
      place = omega (arith, place, ap length r.parts, length-append r.front left);
      segments = segments_said r.xs r.front left r.entries;
      no_segment = λ c. r.no_entry (c.piece, c.rest) (c.text, c.parts, said_segment c.piece c.text c.rest c.segment_is);
      no_end = λ c. let x = said_end left c in r.no_close x.0 x.1;
    }
    by_start true e (inr r) = absurd r.2
    by_start false e r = absurd r

-- and the other way round
pub said_bad : (file : List ℕ) (at : ℕ) → IsBad file at → (flat_text file).Reason at
said_bad file at s =
    let breaks : BreaksOff segment end file s.left = record {
      xs = s.pieces;
      front = s.text;
      parts = s.parts;
      entries = said_segments s.pieces s.text s.left s.segments;
      no_entry = λ x a. s.no_segment (record { text = a.0; piece = x.0; rest = x.1; parts = a.1; segment_is = segment_said x.0 a.0 x.1 a.2 });
      no_close = λ x a. s.no_end (subst EndComes (sym a.1) (end_said x.0 a.0 x.1 a.2));
    } in
    subst (λ (b : Bool). (flat_when b file).Reason at) (sym (starts file s.segmented))
    (inl (s.left, breaks, omega (arith, s.place, ap length s.parts, length-append s.text s.left)))

-- ---- what is read

pub flat_reads : ReadsFlat
flat_reads = record {
  texts = λ file flat. (λ e. flat_said file flat ((flat_text file).takes flat e), λ s. (flat_text file).again flat (said_flat file flat s));
  places = λ file at. (λ e. bad_said file at ((flat_text file).refuses at e), λ s. (flat_text file).refused at (said_bad file at s));
}
