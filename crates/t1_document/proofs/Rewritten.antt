-- The laws of rewriting.
use Rattle.std.proofs.{Common.{◌≡◌, ℕ, Bool, true, false, cond, List, [], ◌∷◌, ◌++◌, map, Option, Some, None, refl, sym, ap, ◌∙◌, append_assoc}, lemmas.Bool.{or_parts}, lemmas.Option.{none-some}}
use Rattle.std.proofs.lemmas.Slice.Eq.{bytes_eq-Decides}
use Rattle.std.specs.{Prelude.{◌&&◌, ◌||◌, not}, Str.{bytes_eq}}
use Rattle.t1_document.specs.{declared.marks.Open.{Open}, declared.marks.Mark.{Mark}}
use Rattle.t1_document.specs.Stretches.{Stretch, Stretches, stretches, stretches_bytes, stretches_text, mark_lines, AreThose}
use Rattle.t1_document.specs.Documents.{Place, Document, document_bytes, place_bytes, none_open, open_behind, next_mark, place_at, prepended, document_from, document_of_stretches, document_of}
use Rattle.t1_document.specs.Rewriting.{NewTexts, can_stand, is_barred, is_refused, standing, Fate, Stays, Becomes, Gives, at_fate, fated, fated_bytes}
use Rattle.t1_document.specs.Rewriting.{level_fate, level_fates, document_rewritten, fate_bytes, levelled, with_new, renewed}
use Rattle.t1_document.proofs.{StretchLemmas.{stretches_those, stretches_again}, PlaceLemmas.{prepended_bytes, from_bytes}, Breaks.{breaks-same}}
use Rattle.t1_document.proofs.Retold.{Fits, fated_by, AllFit, all_behind, told_at, left_at, mark_same, line_same, retold, document_retold, start_same, are_retold, fated-prepended}

-- ---- the new texts that stand

-- a name is itself
pub same_bytes : (name : List ℕ) → bytes_eq name name ≡ true
same_bytes name = (bytes_eq-Decides name name).1 refl

not_false : (b : Bool) → not b ≡ false → b ≡ true
not_false true h = refl
not_false false h = absurd cc

-- a name with a text that stands is not refused
pub where_stands : (refused : Bool) (o : Option (List ℕ)) (text : List ℕ) → cond refused None o ≡ Some text → (refused ≡ false) × (o ≡ Some text)
where_stands true o text e = absurd (none-some text e)
where_stands false o text e = (refl, e)

-- each place can have the new text of its name
abbrev pub AllStand : NewTexts → List Place → Type 0
AllStand new [] = Unit {0}
AllStand new (p ∷ ps) = ((text : List ℕ) → new p.name ≡ Some text → can_stand text p ≡ true) × AllStand new ps

-- each can stand at all places of its name
pub standing_stands : (new : NewTexts) (ps : List Place) → AllStand (standing new ps) ps
standing_stands new ps = each ps (λ name h. h)
  where
    at_first : (p : Place) (qs : List Place) (text : List ℕ) → is_refused new (p ∷ qs) p.name ≡ false → new p.name ≡ Some text → can_stand text p ≡ true
    at_first p qs text h e =
        let first = (or_parts (bytes_eq p.name p.name && is_barred (new p.name) p) (is_refused new qs p.name) h).0 in
        let barred : is_barred (Some text) p ≡ false =
        ap (λ (o : Option (List ℕ)). is_barred o p) (sym e) ∙ (ap (λ (b : Bool). b && is_barred (new p.name) p) (sym (same_bytes p.name)) ∙ first) in
        not_false (can_stand text p) barred

    each : (qs : List Place) → ((name : List ℕ) → is_refused new ps name ≡ false → is_refused new qs name ≡ false) → AllStand (standing new ps) qs
    each [] h = tt
    each (p ∷ qs) h = (
      λ text e.
          let w = where_stands (is_refused new ps p.name) (new p.name) text e in
          at_first p qs text (h p.name w.0) w.1,
      each qs (λ name k. (or_parts (bytes_eq name p.name && is_barred (new p.name) p) (is_refused new qs name) (h name k)).1),
    )

-- ---- what is written is read

module _ (fs : List Fate) (text : List ℕ) where
  -- the stretches of what is written
  abbrev written_stretches : Stretches
  written_stretches = ((stretches text).0, retold none_open fs (stretches text).1)

  document_written : AllFit fs (document_of text).places → fated_by fs (document_of text).places (document_of text).last
      ≡ document_of_stretches written_stretches
  unfolding document_of
  document_written all =
      let x = stretches text in
      let d = document_from none_open x.1 in
      fated-prepended fs x.0 d
      ∙ ap (prepended x.0) (sym (document_retold none_open fs x.1 (all_behind fs x.0 d all)))

  stretches_written : AllFit fs (document_of text).places → AreThose written_stretches
  unfolding document_of
  stretches_written all =
      let x = stretches text in
      let those = stretches_those text in
      let same = start_same none_open fs x.1 those.each in
      record {
        unmarked = those.unmarked;
        front_ends = sym (breaks-same x.0 (stretches_bytes x.1) (stretches_bytes (retold none_open fs x.1)) same) ∙ those.front_ends;
        each = are_retold none_open fs x.1 those.each (all_behind fs x.0 (document_from none_open x.1) all);
      }

  bytes_written : (x : Stretches) → document_bytes (document_of_stretches x) ≡ stretches_text x
  bytes_written x = prepended_bytes x.0 (document_from none_open x.1) ∙ ap (λ (t : List ℕ). x.0 ++ t) (from_bytes none_open x.1)

  -- the stretches of the bytes
  pub stretches_are : AllFit fs (document_of text).places →
      stretches (document_bytes (fated_by fs (document_of text).places (document_of text).last)) ≡ written_stretches
  stretches_are all =
      ap (λ (d : Document). stretches (document_bytes d)) (document_written all)
      ∙ (ap stretches (bytes_written written_stretches) ∙ stretches_again written_stretches (stretches_written all))

  -- the document of the bytes
  pub document_is : AllFit fs (document_of text).places →
      document_of (document_bytes (fated_by fs (document_of text).places (document_of text).last))
      ≡ fated_by fs (document_of text).places (document_of text).last
  unfolding document_of
  document_is all = ap document_of_stretches (stretches_are all) ∙ sym (document_written all)

-- ---- its marks

told_lines : (o : Open) (fs : List Fate) (ss : List Stretch) → mark_lines (retold o fs ss) ≡ mark_lines ss
unfolding retold
told_lines o fs [] = refl
told_lines o fs (s ∷ ss) =
    let q = place_at o s (next_mark ss) in
    let rest = mark_lines (retold (open_behind o s.mark) (left_at fs q) ss) in
    ap (λ (x : Mark). (x, (told_at fs q s).line) ∷ rest) (mark_same fs q s)
    ∙ (ap (λ (l : List ℕ). (s.mark, l) ∷ rest) (line_same fs q s)
    ∙ ap (λ (ls : List (Mark × List ℕ)). (s.mark, s.line) ∷ ls) (told_lines (open_behind o s.mark) (left_at fs q) ss))

-- the marks stay, each in its line
pub lines_stay : (fs : List Fate) (text : List ℕ) → AllFit fs (document_of text).places →
    mark_lines (stretches (document_bytes (fated_by fs (document_of text).places (document_of text).last))).1 ≡ mark_lines (stretches text).1
lines_stay fs text all = ap (λ (x : Stretches). mark_lines x.1) (stretches_are fs text all) ∙ told_lines none_open fs (stretches text).1

-- ---- with new texts

module _ (new : NewTexts) where
  -- what becomes of places
  abbrev fates_by : List Place → List Fate
  fates_by ps = map (λ p. level_fate (new p.name)) ps

  level_split : (ps : List Place) (last : List ℕ) → fated (level_fates new ps) last ≡ fated_by (fates_by ps) ps last
  unfolding fated fated_by
  level_split [] last = refl
  level_split (p ∷ ps) last = ap (at_fate (level_fate (new p.name)) p) (level_split ps last)

  level_fits : (p : Place) (o : Option (List ℕ)) → ((text : List ℕ) → o ≡ Some text → can_stand text p ≡ true) → Fits (level_fate o) p
  level_fits p None h = tt
  level_fits p (Some text) h = h text refl

  all_fit : (ps : List Place) → AllStand new ps → AllFit (fates_by ps) ps
  all_fit [] h = tt
  all_fit (p ∷ ps) h = (level_fits p (new p.name) h.0, all_fit ps h.1)

-- what is written is read as it was meant
pub rewritten_is_read : (new : NewTexts) (text : List ℕ) →
    document_of (document_bytes (document_rewritten new (document_of text))) ≡ document_rewritten new (document_of text)
rewritten_is_read new text =
    let d = document_of text in
    let stand = standing new d.places in
    let is : document_rewritten new d ≡ fated_by (fates_by stand d.places) d.places d.last = level_split stand d.places d.last in
    ap (λ (x : Document). document_of (document_bytes x)) is
    ∙ (document_is (fates_by stand d.places) text (all_fit stand d.places (standing_stands new d.places)) ∙ sym is)

-- the marks stay
pub marks_stay : (new : NewTexts) (text : List ℕ) →
    mark_lines (stretches (document_bytes (document_rewritten new (document_of text)))).1 ≡ mark_lines (stretches text).1
marks_stay new text =
    let d = document_of text in
    let stand = standing new d.places in
    ap (λ (x : Document). mark_lines (stretches (document_bytes x)).1) (level_split stand d.places d.last)
    ∙ lines_stay (fates_by stand d.places) text (all_fit stand d.places (standing_stands new d.places))

-- ---- its bytes

fate_written : (f : Fate) (p : Place) (d : Document) → document_bytes (at_fate f p d) ≡ p.before ++ (fate_bytes f p ++ document_bytes d)
fate_written Stays p d = append_assoc (place_bytes p) _ d.last ∙ append_assoc p.before (p.text ++ p.rest) (document_bytes d)
fate_written (Becomes text) p d =
    append_assoc (p.before ++ (text ++ p.rest)) _ d.last ∙ append_assoc p.before (text ++ p.rest) (document_bytes d)
fate_written (Gives bytes) p d = prepended_bytes (p.before ++ bytes) d ∙ append_assoc p.before bytes (document_bytes d)

-- the bytes of places with their fates are written place by place
pub fated_written : (xs : List (Place × Fate)) (last : List ℕ) → document_bytes (fated xs last) ≡ fated_bytes xs last
unfolding fated fated_bytes
fated_written [] last = refl
fated_written (x ∷ xs) last =
    fate_written x.1 x.0 (fated xs last) ∙ ap (λ (t : List ℕ). x.0.before ++ (fate_bytes x.1 x.0 ++ t)) (fated_written xs last)

-- places and fates, each list by itself
pub fated_is : (xs : List (Place × Fate)) (last : List ℕ) → fated xs last ≡ fated_by (map (λ x. x.1) xs) (map (λ x. x.0) xs) last
unfolding fated fated_by
fated_is [] last = refl
fated_is (x ∷ xs) last = ap (at_fate x.1 x.0) (fated_is xs last)

-- ---- levelled

level_at : (p : Place) (o : Option (List ℕ)) (d : Document) → at_fate (level_fate o) p d ≡ record { places = with_new o p ∷ d.places; last = d.last }
level_at p None d = refl
level_at p (Some text) d = refl

level_is : (new : NewTexts) (ps : List Place) (last : List ℕ) →
    fated (level_fates new ps) last ≡ record { places = map (renewed new) ps; last = last }
unfolding fated
level_is new [] last = refl
level_is new (p ∷ ps) last =
    level_at p (new p.name) (fated (level_fates new ps) last)
    ∙ ap (λ (d : Document). record { places = renewed new p ∷ d.places; last = d.last }) (level_is new ps last)

-- a levelled document has the new texts, and is else the same
pub level_renews : (new : NewTexts) (d : Document) →
    document_rewritten new d ≡ record { places = map (renewed (standing new d.places)) d.places; last = d.last }
level_renews new d = level_is (standing new d.places) d.places d.last

-- a place that has a new text bars what it barred
barred_same : (new : NewTexts) (name : List ℕ) (o : Option (List ℕ)) (p : Place) →
    (bytes_eq name (with_new o p).name && is_barred (new (with_new o p).name) (with_new o p)) ≡ (bytes_eq name p.name && is_barred (new p.name) p)
barred_same new name None p = refl
barred_same new name (Some text) p = by_new (new p.name)
  where
    by_new : (n : Option (List ℕ)) → (bytes_eq name p.name && is_barred n (record p { text = text })) ≡ (bytes_eq name p.name && is_barred n p)
    by_new None = refl
    by_new (Some t) = refl

refused_same : (new other : NewTexts) (ps : List Place) (name : List ℕ) → is_refused new (map (renewed other) ps) name ≡ is_refused new ps name
refused_same new other [] name = refl
refused_same new other (p ∷ ps) name =
    ap (λ (b : Bool). b || is_refused new (map (renewed other) ps) name) (barred_same new name (other p.name) p)
    ∙ ap (λ (b : Bool). (bytes_eq name p.name && is_barred (new p.name) p) || b) (refused_same new other ps name)

same_standing : (new other : NewTexts) (ps : List Place) (name : List ℕ) → standing new (map (renewed other) ps) name ≡ standing new ps name
same_standing new other ps name = ap (λ (b : Bool). cond b None (new name)) (refused_same new other ps name)

new_twice : (o : Option (List ℕ)) (p : Place) → with_new o (with_new o p) ≡ with_new o p
new_twice None p = refl
new_twice (Some text) p = refl

same_name : (o : Option (List ℕ)) (p : Place) → (with_new o p).name ≡ p.name
same_name None p = refl
same_name (Some text) p = refl

renewed_twice : (new other : NewTexts) → ((name : List ℕ) → other name ≡ new name) → (ps : List Place) →
    map (renewed other) (map (renewed new) ps) ≡ map (renewed new) ps
renewed_twice new other same [] = refl
renewed_twice new other same (p ∷ ps) =
    let q = renewed new p in
    ap (λ (o : Option (List ℕ)). with_new o q ∷ map (renewed other) (map (renewed new) ps)) (same q.name ∙ ap new (same_name (new p.name) p))
    ∙ (ap (λ (r : Place). r ∷ map (renewed other) (map (renewed new) ps)) (new_twice (new p.name) p)
    ∙ ap (λ (rs : List Place). q ∷ rs) (renewed_twice new other same ps))

-- to level twice is to level once
pub levelled_twice : (new : NewTexts) (text : List ℕ) → levelled new (levelled new text) ≡ levelled new text
levelled_twice new text =
    let d = document_of text in
    let stand = standing new d.places in
    let e : Document = record { places = map (renewed stand) d.places; last = d.last } in
    let first : document_rewritten new d ≡ e = level_renews new d in
    let again : document_rewritten new e ≡ e =
    level_renews new e
    ∙ ap (λ (ps : List Place). record { places = ps; last = d.last })
    (renewed_twice stand (standing new e.places) (same_standing new stand d.places) d.places) in
    ap (λ (x : Document). document_bytes (document_rewritten new x)) (rewritten_is_read new text ∙ first)
    ∙ (ap document_bytes again ∙ ap document_bytes (sym first))
