-- What stands before the documents of a pooled text: its stretches, and its places.
use Rattle.std.proofs.Common.{◌≡◌, ℕ, true, false, refl, sym, ◌∙◌, ap, List, [], ◌∷◌, ◌++◌, map, Option, Some, None, append_assoc}
use Rattle.std.proofs.{lemmas.List.{map-append}}
use Rattle.std.specs.{Prelude.{codes}, List.{AllByRecursion}, Option.{option_map}}
use Rattle.t1_document.specs.{declared.marks.Kind.TheVariants.{Resource}, Lines.{lines_of, breaks}, Marks.{mark_of, has_mark}}
use Rattle.t1_document.specs.{Stretches.{Stretch, Stretches, stretches, stretches_bytes, AreStretches, AreThose}, Fonts.{FontText}}
use Rattle.t1_document.specs.Documents.{Place, Document, none_open, next_mark, place_with, place_at, behind_bytes, prepended}
use Rattle.t1_document.specs.Documents.{at_stretch, document_from, document_of, open_at_end, ends_in_part, IsClosed}
use Rattle.t1_document.specs.{Rewriting.{NewTexts}, Pooling.{Entry, behind_text, entry_bytes, text_part, entry_part, entries}}
use Rattle.t1_document.proofs.{LineLemmas.{breaks-append}, StretchLemmas.{stretches_again}, Bare.{bare}, JoinedDocuments.{begins_no_place, joined_documents}, RegularNames.{IsRegular}}
use Rattle.t1_document.proofs.{DefiningLines.{regular_both}}
use Rattle.t1_document.proofs.EntryParts.{IsEntry, font_regular, lf_ends, front_of, renaming_ends, word_ends, part, part_end, bytes_are, part_is, end_is}

-- places are the same but for the bytes before them
pub prepended_bare : (b : List ℕ) (d : Document) → map bare (prepended b d).places ≡ map bare d.places
prepended_bare b d = by_places d.places d.last
  where
    by_places : (ps : List Place) (last : List ℕ) → map bare (behind_bytes b ps last).places ≡ map bare ps
    by_places [] last = refl
    by_places (p ∷ ps) last = refl

-- the first line
abbrev pub header : List ℕ
header = codes "%!PS-Adobe-3.0\n"

header_unmarked : has_mark header ≡ false
unfolding lines_of mark_of
header_unmarked = refl

-- the place of an entry, without the bytes before it
abbrev pub entry_place : Entry → Place
entry_place e = record { before = []; kind = Resource; depth = 0; name = e.name; text = e.text; rest = behind_text e.answers }

-- before others, if there is one
abbrev pub with_place : Option Entry → List Place → List Place
with_place None ps = ps
with_place (Some e) ps = entry_place e ∷ ps

-- the places of the entries of keys
abbrev pub entry_places : (List ℕ → Option Entry) → List (List ℕ) → List Place
entry_places entry [] = []
entry_places entry (k ∷ ks) = with_place (entry k) (entry_places entry ks)

module _ (own : List ℕ) (new : NewTexts) (entry : List ℕ → Option Entry)
    (known : (key : List ℕ) (e : Entry) → entry key ≡ Some e → IsEntry (47 ∷ own) (new key) e) (plain : IsRegular own) where
  abbrev with_parts : List ℕ → Option Entry → List Stretch → List Stretch
  with_parts key None ss = ss
  with_parts key (Some e) ss = part e ∷ part_end (47 ∷ own) key e ∷ ss

  abbrev parts : List (List ℕ) → List Stretch
  parts [] = []
  parts (k ∷ ks) = with_parts k (entry k) (parts ks)

  parts_bytes : (ks : List (List ℕ)) → stretches_bytes (parts ks) ≡ entries (47 ∷ own) entry ks
  parts_bytes [] = refl
  parts_bytes (k ∷ ks) = by_entry (entry k) (parts_bytes ks)
    where
      by_entry : (o : Option Entry) → stretches_bytes (parts ks) ≡ entries (47 ∷ own) entry ks →
          stretches_bytes (with_parts k o (parts ks)) ≡ entry_part (47 ∷ own) k o ++ entries (47 ∷ own) entry ks
      by_entry None more = more
      by_entry (Some e) more =
          let t = part_end (47 ∷ own) k e in
          sym (append_assoc ((part e).line ++ (part e).text) (t.line ++ t.text) (stretches_bytes (parts ks)))
          ∙ (ap (λ (u : List ℕ). u ++ stretches_bytes (parts ks)) (bytes_are (47 ∷ own) k e)
          ∙ ap (λ (u : List ℕ). entry_bytes (47 ∷ own) k e ++ u) more)

  -- the name of an entry has regular bytes
  named : (key : List ℕ) (e : Entry) → entry key ≡ Some e → IsRegular e.name
  named key e h =
      font_regular (e.text ++ behind_text e.answers) (record { name = e.name; text = e.text; rest = behind_text e.answers }) (known key e h).found

  parts_are : (ks : List (List ℕ)) → AllByRecursion IsRegular ks → AreStretches (parts ks)
  parts_are [] r = tt
  parts_are (k ∷ ks) r = by_entry (entry k) refl (parts_are ks r.1)
    where
      by_entry : (o : Option Entry) → entry k ≡ o → AreStretches (parts ks) → AreStretches (with_parts k o (parts ks))
      by_entry None h more = more
      by_entry (Some e) h more = (
        part_is (47 ∷ own) k e (stretches_bytes (parts ks)) (named k e h) (known k e h).unmarked,
        (end_is own k (regular_both own k plain r.0) e (stretches_bytes (parts ks)) (named k e h), more),
      )

  no_part_left : (ks : List (List ℕ)) → ends_in_part (parts ks) ≡ false
  no_part_left [] = refl
  no_part_left (k ∷ ks) = by_entry (entry k) (parts ks) (no_part_left ks)
    where
      by_entry : (o : Option Entry) (ss : List Stretch) → ends_in_part ss ≡ false → ends_in_part (with_parts k o ss) ≡ false
      by_entry None ss h = h
      by_entry (Some e) [] h = refl
      by_entry (Some e) (s ∷ ss) h = h

  none_left_open : (ks : List (List ℕ)) → open_at_end none_open (parts ks) ≡ none_open
  none_left_open [] = refl
  none_left_open (k ∷ ks) = by_entry (entry k) (none_left_open ks)
    where
      by_entry : (o : Option Entry) → open_at_end none_open (parts ks) ≡ none_open → open_at_end none_open (with_parts k o (parts ks)) ≡ none_open
      by_entry None more = more
      by_entry (Some e) more = more

  parts_places : (ks : List (List ℕ)) → map bare (document_from none_open (parts ks)).places ≡ entry_places entry ks
  unfolding document_from
  parts_places [] = refl
  parts_places (k ∷ ks) = by_entry (entry k) refl (parts_places ks)
    where
      by_entry : (o : Option Entry) → entry k ≡ o → map bare (document_from none_open (parts ks)).places ≡ entry_places entry ks →
          map bare (document_from none_open (with_parts k o (parts ks))).places ≡ with_place o (entry_places entry ks)
      by_entry None h more = more
      by_entry (Some e) h more =
          let s = part e in
          let t = part_end (47 ∷ own) k e in
          let behind = document_from none_open (parts ks) in
          let f : FontText = record { name = e.name; text = e.text; rest = behind_text e.answers } in
          let here : place_at none_open s (Some t.mark) ≡ Some (place_with none_open s f) = ap (option_map (place_with none_open s)) (known k e h).found in
          let none : place_at none_open t (next_mark (parts ks)) ≡ None = begins_no_place none_open t (next_mark (parts ks)) refl in
          ap (λ (q : Option Place). map bare (at_stretch s q (at_stretch t (place_at none_open t (next_mark (parts ks))) behind)).places) here
          ∙ (ap (λ (q : Option Place). entry_place e ∷ map bare (at_stretch t q behind).places) none
          ∙ ap (λ (qs : List Place). entry_place e ∷ qs) (prepended_bare (t.line ++ t.text) behind ∙ more))

  entry_closed : (k : List ℕ) → IsRegular k → (o : Option Entry) (behind : List ℕ) → breaks (entry_part (47 ∷ own) k o) behind ≡ true
  entry_closed k r None behind = refl
  entry_closed k r (Some e) behind =
      let regular = regular_both own k plain r in
      let front = front_of own k regular e.name in
      ap (λ (t : List ℕ). breaks t behind) (ap (λ (t : List ℕ). text_part e ++ t) (renaming_ends own k regular e.name)
      ∙ sym (append_assoc (text_part e) front (codes " undefinefont}if\n")))
      ∙ word_ends (text_part e ++ front) behind

  all_closed : (ks : List (List ℕ)) → AllByRecursion IsRegular ks → (behind : List ℕ) → breaks (entries (47 ∷ own) entry ks) behind ≡ true
  all_closed [] r behind = refl
  all_closed (k ∷ ks) r behind =
      breaks-append (entry_part (47 ∷ own) k (entry k)) (entries (47 ∷ own) entry ks) behind
      (entry_closed k r.0 (entry k) (entries (47 ∷ own) entry ks ++ behind)) (all_closed ks r.1 behind)

  module _ (keys : List (List ℕ)) (regular : AllByRecursion IsRegular keys) where
    -- what stands before the documents
    abbrev pub front : List ℕ
    front = header ++ entries (47 ∷ own) entry keys

    front_closed : (behind : List ℕ) → breaks front behind ≡ true
    front_closed behind =
        breaks-append header (entries (47 ∷ own) entry keys) behind (lf_ends (codes "%!PS-Adobe-3.0") (entries (47 ∷ own) entry keys ++ behind))
        (all_closed keys regular behind)

    front_stretches : stretches front ≡ (header, parts keys)
    front_stretches =
        let those : AreThose (header, parts keys) = record {
          unmarked = header_unmarked;
          front_ends = lf_ends (codes "%!PS-Adobe-3.0") (stretches_bytes (parts keys));
          each = parts_are keys regular;
        } in
        ap (λ (t : List ℕ). stretches (header ++ t)) (sym (parts_bytes keys)) ∙ stretches_again (header, parts keys) those

    is_closed : IsClosed front
    is_closed = record {
      balanced = ap (λ (x : Stretches). open_at_end none_open x.1) front_stretches ∙ none_left_open keys;
      part = ap (λ (x : Stretches). ends_in_part x.1) front_stretches ∙ no_part_left keys;
    }

    front_places : map bare (document_of front).places ≡ entry_places entry keys
    unfolding document_of
    front_places =
        ap (λ (x : Stretches). map bare (prepended x.0 (document_from none_open x.1)).places) front_stretches
        ∙ (prepended_bare header (document_from none_open (parts keys)) ∙ parts_places keys)

    -- the places of the whole are those of the entries and of what follows
    pub whole_places : (rest : List ℕ) → map bare (document_of (front ++ rest)).places ≡ entry_places entry keys ++ map bare (document_of rest).places
    whole_places rest =
        let d = document_of front in
        let e = document_of rest in
        ap (λ (x : Document). map bare x.places) (joined_documents front rest (front_closed rest) is_closed)
        ∙ (map-append bare d.places (prepended d.last e).places
        ∙ (λ i. front_places i ++ prepended_bare d.last e i))
