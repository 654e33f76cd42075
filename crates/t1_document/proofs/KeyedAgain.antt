-- What was pooled by keys is pooled by them to itself.
use Rattle.std.proofs.Common.{◌≡◌, ◌≤◌, ◌∙◌, ℕ, Bool, true, false, cond, refl, sym, ap, subst, List, [], ◌∷◌, ◌++◌, map, length, replicate, inr, Option, Some, None, arith, append_assoc}
use Rattle.std.proofs.{lemmas.Bool.{true≢false, lt-ltb, or_parts}, lemmas.Option.{none-some}}
use Rattle.std.proofs.{lemmas.Slice.Eq.{bytes_eq-Decides}, lemmas.List.{append-nil, length-append}, lemmas.List.Elements.{filter-append}}
use Rattle.std.specs.{Prelude.{◌||◌, codes}, List.{AllByRecursion}, Str.{bytes_eq}}
use Rattle.t1_bytes.specs.White.{has_bytes}
use Rattle.t1_document.specs.{declared.pooling.Key.{Key}, declared.entries.Least.TheVariants.{Two}}
use Rattle.t1_document.specs.{Documents.{Place, Document, document_bytes, document_of}, Rewriting.{NewTexts, Fate, fated, is_seen}}
use Rattle.t1_document.specs.Joins.{Outcomes, AreOutcomes, ComeTo, names_from, places_under, new_texts}
use Rattle.t1_document.specs.Pooling.{own_start, free_start, key_of, under_key, keyed, places_by, line_end, place_line, text_part, Entry}
use Rattle.t1_document.specs.Pooling.{clashes, any_clashes, behind_text}
use Rattle.t1_document.specs.Pooling.{entry_by, entry_of, entry_in, entry_part, end_by}
use Rattle.t1_document.specs.Pooling.{keys_of, line_ends, entries, prolog, fate_ending, line_fates, document_pooled, pooled_by}
use Rattle.t1_document.specs.PoolLaws.{PooledByKeys, PooledAgainByKeys}
use Rattle.t1_document.proofs.{PlaceLemmas.{document_text}, Retold.{Fits, AllFit, given_line, fated_by}}
use Rattle.t1_document.proofs.{Rewritten.{document_is, fated_is, same_bytes}, OneOutcome.{one_text_for}, Bare.{bare, to_bare}}
use Rattle.t1_document.proofs.{RegularNames.{IsRegular, IsNamed, places_named}, OwnTexts.{Own, own_texts_stand}}
use Rattle.t1_document.proofs.{DefiningLines.{key_regular, colons_regular}, EntryParts.{IsEntry, known_entry}, KeyedPlaces.{names_hold}, EntryLines.{IsGiven, all_given}}
use Rattle.t1_document.proofs.{FontLemmas.{font_stands}, OwnStarts.{own_length}, PlacesFind.{same_places, one_pooled_by_keys}}
use Rattle.t1_document.proofs.OtherStarts.{start_is, free_has_more, clear_more, entry_same, entry_bare}
use Rattle.t1_document.proofs.{PrologParts.{prepended_bare, header, entry_places, front, whole_places}, KeyedNames.{IsClearPlace, names_distinct, unseen, seen_holds, new_named, none_of, few_of}}

-- ---- places

-- the places of a key, without the bytes before them
bare_by : (by : Key) (key : List ℕ) (ps : List Place) → map bare (places_by by key ps) ≡ places_by by key (map bare ps)
bare_by by key [] = refl
bare_by by key (p ∷ ps) = by_key (bytes_eq (key_of by p.name) key) (bare_by by key ps)
  where
    by_key : (b : Bool) → map bare (places_by by key ps) ≡ places_by by key (map bare ps) →
        map bare (cond b (p ∷ places_by by key ps) (places_by by key ps)) ≡ cond b (bare p ∷ places_by by key (map bare ps)) (places_by by key (map bare ps))
    by_key true more = ap (λ (qs : List Place). bare p ∷ qs) more
    by_key false more = more

-- places under a key are those of the key
under_by : (by : Key) (key : List ℕ) (ps : List Place) → map bare (places_under key (keyed by ps)) ≡ map (under_key by) (places_by by key (map bare ps))
under_by by key [] = refl
under_by by key (p ∷ ps) = by_key (bytes_eq (key_of by p.name) key) (under_by by key ps)
  where
    by_key : (b : Bool) → map bare (places_under key (keyed by ps)) ≡ map (under_key by) (places_by by key (map bare ps)) →
        map bare (cond b (under_key by p ∷ places_under key (keyed by ps)) (places_under key (keyed by ps)))
        ≡ map (under_key by) (cond b (bare p ∷ places_by by key (map bare ps)) (places_by by key (map bare ps)))
    by_key true more = ap (λ (qs : List Place). under_key by (bare p) ∷ qs) more
    by_key false more = more

-- what holds of places holds of those of a key
all_by : (P : Place → Type 0) (by : Key) (key : List ℕ) (ps : List Place) → AllByRecursion P ps → AllByRecursion P (places_by by key ps)
all_by P by key [] h = tt
all_by P by key (p ∷ ps) h = by_key (bytes_eq (key_of by p.name) key) (all_by P by key ps h.1)
  where
    by_key : (b : Bool) → AllByRecursion P (places_by by key ps) → AllByRecursion P (cond b (p ∷ places_by by key ps) (places_by by key ps))
    by_key true more = (h.0, more)
    by_key false more = more

-- ---- places that stay

-- none stay where there are lines
abbrev kept : Option (List ℕ) → List Place → List Place
kept None ps = ps
kept (Some end) ps = []

kept_nil : (o : Option (List ℕ)) → [] ≡ kept o []
kept_nil None = refl
kept_nil (Some end) = refl

module _ (by : Key) (start : List ℕ) (ends : NewTexts) (last : List ℕ) where
  abbrev left : List Place → Document
  left qs = fated (line_fates start by ends qs) last

  -- the places of a key that stay
  stay_of : (key : List ℕ) (qs : List Place) → places_by by key (map bare (left qs).places) ≡ kept (ends key) (places_by by key (map bare qs))
  unfolding fated
  stay_of key [] = kept_nil (ends key)
  stay_of key (q ∷ qs) = by_end (ends (key_of by q.name)) refl (bytes_eq (key_of by q.name) key) refl (stay_of key qs)
    where
      first : List Place → List Place
      first xs = bare q ∷ xs

      by_end : (o : Option (List ℕ)) → ends (key_of by q.name) ≡ o → (b : Bool) → bytes_eq (key_of by q.name) key ≡ b →
          places_by by key (map bare (left qs).places) ≡ kept (ends key) (places_by by key (map bare qs)) →
          places_by by key (map bare (fated ((q, fate_ending start by o q) ∷ line_fates start by ends qs) last).places)
          ≡ kept (ends key) (cond b (bare q ∷ places_by by key (map bare qs)) (places_by by key (map bare qs)))
      by_end None e true t more =
          let none : ends key ≡ None = ap ends (sym (key_is t)) ∙ e in
          ap (λ (b : Bool). cond b (bare q ∷ places_by by key (map bare (left qs).places)) (places_by by key (map bare (left qs).places))) t
          ∙ (ap first (more ∙ ap (λ (o : Option (List ℕ)). kept o (places_by by key (map bare qs))) none)
          ∙ ap (λ (o : Option (List ℕ)). kept o (bare q ∷ places_by by key (map bare qs))) (sym none))
        where
          key_is : bytes_eq (key_of by q.name) key ≡ true → key_of by q.name ≡ key
          key_is t = (bytes_eq-Decides (key_of by q.name) key).0 t
      by_end None e false t more =
          ap (λ (b : Bool). cond b (bare q ∷ places_by by key (map bare (left qs).places)) (places_by by key (map bare (left qs).places))) t ∙ more
      by_end (Some end) e true t more =
          let some : ends key ≡ Some end = ap ends (sym ((bytes_eq-Decides (key_of by q.name) key).0 t)) ∙ e in
          ap (places_by by key) (prepended_bare (q.before ++ (place_line start end q.name (key_of by q.name) ++ q.rest)) (left qs))
          ∙ (more ∙ (ap (λ (o : Option (List ℕ)). kept o (places_by by key (map bare qs))) some
          ∙ ap (λ (o : Option (List ℕ)). kept o (bare q ∷ places_by by key (map bare qs))) (sym some)))
      by_end (Some end) e false t more =
          ap (places_by by key) (prepended_bare (q.before ++ (place_line start end q.name (key_of by q.name) ++ q.rest)) (left qs)) ∙ more

-- ---- where there are no entries

module _ (by : Key) (start : List ℕ) (entry : List ℕ → Option Entry) (keys : List (List ℕ))
    (none : (key : List ℕ) → is_seen keys key ≡ true → entry key ≡ None) where
  no_end : (key : List ℕ) → line_ends entry keys key ≡ None
  no_end key = by_seen (is_seen keys key) refl
    where
      by_seen : (b : Bool) → is_seen keys key ≡ b → cond b (end_by (entry key)) None ≡ None
      by_seen true s = ap end_by (none key s)
      by_seen false s = refl

  pub stays_whole : (ps : List Place) (last : List ℕ) → fated (line_fates start by (line_ends entry keys) ps) last ≡ record { places = ps; last = last }
  unfolding fated
  stays_whole [] last = refl
  stays_whole (p ∷ ps) last =
      ap (λ (o : Option (List ℕ)). fated ((p, fate_ending start by o p) ∷ line_fates start by (line_ends entry keys) ps) last) (no_end (key_of by p.name))
      ∙ ap (λ (d : Document). record { places = p ∷ d.places; last = d.last }) (stays_whole ps last)

  entries_none : (ks : List (List ℕ)) → ((key : List ℕ) → is_seen ks key ≡ true → entry key ≡ None) → entries start entry ks ≡ []
  entries_none [] h = refl
  entries_none (k ∷ ks) h =
      ap (λ (o : Option Entry). entry_part start k o ++ entries start entry ks) (h k (ap (λ (b : Bool). b || is_seen ks k) (same_bytes k)))
      ∙ entries_none ks (λ key s. h key (either (bytes_eq key k) (is_seen ks key) s))
    where
      either : (b c : Bool) → c ≡ true → (b || c) ≡ true
      either true c t = refl
      either false c t = t

  -- the document stays
  pub nothing_pooled : (d : Document) → prolog (entries start entry keys) ++ document_bytes (fated (line_fates start by (line_ends entry keys) d.places) d.last)
      ≡ document_bytes d
  nothing_pooled d = λ i. prolog (entries_none keys none i) ++ document_bytes (stays_whole d.places d.last i)

-- keys without bytes of entries have none
no_entries : (start : List ℕ) (entry : List ℕ → Option Entry) (ks : List (List ℕ)) → entries start entry ks ≡ [] → (key : List ℕ) → is_seen ks key ≡ true →
    entry key ≡ None
no_entries start entry [] h key s = absurd (true≢false (sym s))
no_entries start entry (k ∷ ks) h key s = by_entry (entry k) refl h (bytes_eq key k) refl s (λ more t. no_entries start entry ks more key t)
  where
    some_bytes : (b : ℕ) (bs : List ℕ) → b ∷ bs ≡ [] → ⊥
    some_bytes b bs e = absurd cc

    by_entry : (o : Option Entry) → entry k ≡ o → entry_part start k o ++ entries start entry ks ≡ [] → (b : Bool) → bytes_eq key k ≡ b →
        (b || is_seen ks key) ≡ true → (entries start entry ks ≡ [] → is_seen ks key ≡ true → entry key ≡ None) → entry key ≡ None
    by_entry (Some e) x h b t s more = absurd (some_bytes 37 _ h)
    by_entry None x h true t s more = ap entry ((bytes_eq-Decides key k).0 t) ∙ x
    by_entry None x h false t s more = more h s

-- where there are bytes of entries, the start stands in them
start_in : (start : List ℕ) (entry : List ℕ → Option Entry) (ks : List (List ℕ)) → (b : ℕ) (bs : List ℕ) → entries start entry ks ≡ b ∷ bs →
    (before behind : List ℕ) × (entries start entry ks ≡ before ++ (start ++ behind))
start_in start entry [] b bs h = absurd cc
start_in start entry (k ∷ ks) b bs h = by_entry (entry k) refl h (λ more. start_in start entry ks b bs more)
  where
    regroup : (t s k r l more : List ℕ) → (t ++ (((s ++ k) ++ r) ++ l)) ++ more ≡ t ++ (s ++ (k ++ (r ++ (l ++ more))))
    regroup t s k r l more = simp append_assoc

    by_entry : (o : Option Entry) → entry k ≡ o → entry_part start k o ++ entries start entry ks ≡ b ∷ bs →
        (entries start entry ks ≡ b ∷ bs → (before behind : List ℕ) × (entries start entry ks ≡ before ++ (start ++ behind))) →
        (before behind : List ℕ) × (entry_part start k o ++ entries start entry ks ≡ before ++ (start ++ behind))
    by_entry None e h more = more h
    by_entry (Some e) x h more = (text_part e, _, regroup (text_part e) start k _ _ (entries start entry ks))

keyed_named : (by : Key) (qs : List Place) → AllByRecursion IsNamed qs → AllByRecursion (λ q. IsRegular q.name) (keyed by qs)
keyed_named by [] h = tt
keyed_named by (q ∷ qs) h = (key_regular by q.name h.0, keyed_named by qs h.1)

no_first : (start key : List ℕ) (text : Option (List ℕ)) (ps : List Place) → entry_by start key text None ps ≡ None
no_first start key None ps = refl
no_first start key (Some t) ps = refl

-- ---- pooled once

-- so many colons behind `pool`
abbrev pub colons : ℕ → List ℕ
colons n = codes "pool" ++ replicate n 58

pub colons_plain : (n : ℕ) → IsRegular (colons n)
colons_plain n = colons_regular n

module _ (by : Key) (text : List ℕ) (outcomes : Outcomes) (are : AreOutcomes (keyed by (document_of text).places) outcomes) (n : ℕ)
    (clear : AllByRecursion (IsClearPlace by (own_start n)) (document_of text).places) where
  abbrev d : Document
  d = document_of text

  abbrev ps : List Place
  ps = d.places

  abbrev entry : List ℕ → Option Entry
  entry = entry_in (47 ∷ colons n) by (new_texts outcomes) ps

  abbrev keys : List (List ℕ)
  keys = names_from [] (keyed by ps)

  abbrev ends : NewTexts
  ends = line_ends entry keys

  pub known : (key : List ℕ) (e : Entry) → entry key ≡ Some e → IsEntry (47 ∷ colons n) (new_texts outcomes key) e
  known key e h = known_entry Two (47 ∷ colons n) key (new_texts outcomes key) (places_by by key ps) e h

  of_key : (key : List ℕ) (e : Entry) → entry key ≡ Some e → key_of by e.name ≡ key
  of_key key e h =
      let is = known key e h in
      let named = (font_stands (e.text ++ behind_text e.answers) (record { name = e.name; text = e.text; rest = behind_text e.answers }) is.found).name in
      (new_named by (own_start n) key ps clear outcomes are e.text is.of_text e.name named).0

  pub regular : AllByRecursion IsRegular keys
  regular = names_hold IsRegular [] (keyed by ps) (keyed_named by ps (places_named text))

  abbrev fate : Place → Fate
  fate p = fate_ending (47 ∷ colons n) by (ends (key_of by p.name)) p

  fit_all : (qs : List Place) → AllByRecursion (λ p. IsGiven Two by (47 ∷ colons n) (new_texts outcomes) ps keys (key_of by p.name) p) qs →
      AllFit (map (λ (x : Place × Fate). x.1) (line_fates (47 ∷ colons n) by ends qs)) qs
  fit_all [] h = tt
  fit_all (q ∷ qs) h = (by_end (ends (key_of by q.name)) refl, fit_all qs h.1)
    where
      by_end : (o : Option (List ℕ)) → ends (key_of by q.name) ≡ o → Fits (fate_ending (47 ∷ colons n) by o q) q
      by_end None e = tt
      by_end (Some end) e = inr (given_line (place_line (47 ∷ colons n) end q.name (key_of by q.name) ++ q.rest) (h.0 end e).1)

  -- the document with lines
  abbrev with_lines : Document
  with_lines = fated (line_fates (47 ∷ colons n) by ends ps) d.last

  -- what is written is read as it
  lines_read : document_of (document_bytes with_lines) ≡ with_lines
  lines_read =
      let xs = line_fates (47 ∷ colons n) by ends ps in
      let fs = map (λ (x : Place × Fate). x.1) xs in
      let is : with_lines ≡ fated_by fs ps d.last = fated_is xs d.last ∙ ap (λ (qs : List Place). fated_by fs qs d.last) (same_places fate ps) in
      ap (λ (x : Document). document_of (document_bytes x)) is
      ∙ (document_is fs text (fit_all ps (all_given Two by (47 ∷ colons n) (new_texts outcomes) ps keys)) ∙ sym is)

  abbrev before : List ℕ
  before = front (colons n) (new_texts outcomes) entry known (colons_plain n) keys regular

  -- ---- pooled again

  module _ (a : List ℕ) (is_a : a ≡ before ++ document_bytes with_lines) (k : Outcomes) (are_after : AreOutcomes (keyed by (document_of a).places) k)
      (m : ℕ) (more : n ≤ m) where
    abbrev rs : List Place
    rs = (document_of a).places

    abbrev entry_again : List ℕ → Option Entry
    entry_again = entry_in (47 ∷ colons m) by (new_texts k) rs

    after : (key : List ℕ) → places_by by key (map bare rs)
        ≡ places_by by key (entry_places entry keys) ++ kept (ends key) (places_by by key (map bare ps))
    after key =
        ap (λ (t : List ℕ). places_by by key (map bare (document_of t).places)) is_a
        ∙ (ap (places_by by key) (whole_places (colons n) (new_texts outcomes) entry known (colons_plain n) keys regular (document_bytes with_lines)
        ∙ ap (λ (x : Document). entry_places entry keys ++ map bare x.places) lines_read)
        ∙ (filter-append (λ p. bytes_eq (key_of by p.name) key) (entry_places entry keys) (map bare with_lines.places)
        ∙ ap (λ (qs : List Place). places_by by key (entry_places entry keys) ++ qs) (stay_of by (47 ∷ colons n) ends d.last key ps)))

    -- an entry is that of the places without the bytes before them
    of_bare : (start key : List ℕ) (t : Option (List ℕ)) (qs : List Place) →
        entry_of start key t (places_by by key qs) ≡ entry_of start key t (places_by by key (map bare qs))
    of_bare start key t qs = sym (entry_bare start key t (places_by by key qs)) ∙ ap (entry_of start key t) (bare_by by key qs)

    -- a key that had an entry has one place
    once : (key end : List ℕ) → ends key ≡ Some end → entry_again key ≡ None
    once key end e =
        let one = places_by by key (entry_places entry keys) in
        let are_one : places_by by key (map bare rs) ≡ one =
        after key ∙ (ap (λ (o : Option (List ℕ)). one ++ kept o (places_by by key (map bare ps))) e ∙ append-nil one) in
        of_bare (47 ∷ colons m) key (new_texts k key) rs
        ∙ (ap (entry_of (47 ∷ colons m) key (new_texts k key)) are_one
        ∙ (ap (λ (first : Option Place). entry_by (47 ∷ colons m) key (new_texts k key) first one)
        (few_of by entry of_key key keys (names_distinct [] (keyed by ps)))
        ∙ no_first (47 ∷ colons m) key (new_texts k key) one))

    module _ (key : List ℕ) (same : places_by by key (map bare rs) ≡ places_by by key (map bare ps)) where
      -- a key with the same places gets the same text
      new_same : new_texts k key ≡ new_texts outcomes key
      new_same =
          let moved = under_by by key rs ∙ (ap (map (under_key by)) same ∙ sym (under_by by key ps)) in
          one_text_for key (map bare (places_under key (keyed by ps))) (k key) (outcomes key)
          (subst (λ (qs : List Place). ComeTo key qs (k key)) moved (to_bare key (places_under key (keyed by rs)) (k key) (are_after key)))
          (to_bare key (places_under key (keyed by ps)) (outcomes key) (are key))

      same_there : entry_again key ≡ entry_of (47 ∷ colons m) key (new_texts k key) (places_by by key ps)
      same_there =
          of_bare (47 ∷ colons m) key (new_texts k key) rs
          ∙ (ap (entry_of (47 ∷ colons m) key (new_texts k key)) same ∙ sym (of_bare (47 ∷ colons m) key (new_texts k key) ps))

      -- where none had an entry, it gets none
      none_again : (b : Bool) → is_seen keys key ≡ b → (b ≡ true → entry key ≡ None) → entry_again key ≡ None
      none_again false s h =
          same_there
          ∙ (ap (entry_of (47 ∷ colons m) key (new_texts k key)) (unseen by key [] ps refl s) ∙ no_first (47 ∷ colons m) key (new_texts k key) [])
      none_again true s h =
          same_there
          ∙ (ap (λ (t : Option (List ℕ)). entry_of (47 ∷ colons m) key t (places_by by key ps)) new_same
          ∙ (sym (entry_same (colons n) (colons m) key (colons_plain n) (colons_plain m) (seen_holds IsRegular keys key regular s) (new_texts outcomes key)
          (places_by by key ps) (all_by IsNamed by key ps (places_named text)) (λ u e name t.
          let c = (new_named by (own_start n) key ps clear outcomes are u e name t).1 in
          (c, clear_more n m more name c))) ∙ h refl))

    no_entry : (key : List ℕ) → entry_again key ≡ None
    no_entry key = by_end (ends key) refl
      where
        by_none : (o : Option Entry) → end_by o ≡ None → o ≡ None
        by_none None e = refl
        by_none (Some x) e = absurd (none-some (line_end x.answers) (sym e))

        had_none : ends key ≡ None → is_seen keys key ≡ true → entry key ≡ None
        had_none e s = by_none (entry key) (sym (ap (λ (b : Bool). cond b (end_by (entry key)) None) s) ∙ e)

        by_end : (o : Option (List ℕ)) → ends key ≡ o → entry_again key ≡ None
        by_end (Some end) e = once key end e
        by_end None e =
            let none = none_of by entry of_key key keys (had_none e) in
            let same : places_by by key (map bare rs) ≡ places_by by key (map bare ps) =
            after key ∙ (λ i. none i ++ kept (e i) (places_by by key (map bare ps))) in
            none_again key same (is_seen keys key) refl (λ t. had_none e t)

    -- so all stays
    pub stays_so : free_start a ≡ own_start m → pooled_by by (new_texts k) a ≡ a
    stays_so free =
        ap (λ (s : List ℕ). document_pooled s by (new_texts k) (document_of a)) free
        ∙ (nothing_pooled by (47 ∷ colons m) entry_again (keys_of (47 ∷ colons m) by rs) (λ key s. no_entry key) (document_of a) ∙ document_text a)

-- ---- the law

all_clear : (by : Key) (start : List ℕ) (qs : List Place) → AllByRecursion Own qs → any_clashes start qs ≡ false → any_clashes start (keyed by qs) ≡ false →
    AllByRecursion (IsClearPlace by start) qs
all_clear by start [] own names none = tt
all_clear by start (q ∷ qs) own names none =
    let n = or_parts (clashes start q.name) (any_clashes start qs) names in
    let k = or_parts (clashes start (key_of by q.name)) (any_clashes start (keyed by qs)) none in
    (record { stands = own.0; name = n.0; key = k.0 }, all_clear by start qs own.1 n.1 k.1)

module _ (by : Key) (text a b : List ℕ) (h : PooledByKeys by text a) (k : PooledByKeys by a b) where
  abbrev olds : List Place
  olds = (document_of text).places

  abbrev new : NewTexts
  new = new_texts h.0

  -- where nothing was pooled, nothing is
  as_before : (start : List ℕ) → free_start text ≡ start →
      ((key : List ℕ) → is_seen (keys_of start by olds) key ≡ true → entry_in start by new olds key ≡ None) → b ≡ a
  as_before start free none =
      let same : a ≡ text =
      h.2 ∙ (ap (λ (s : List ℕ). document_pooled s by new (document_of text)) free
      ∙ (nothing_pooled by start (entry_in start by new olds) (keys_of start by olds) none (document_of text) ∙ document_text text)) in
      one_pooled_by_keys by text b a (subst (λ (t : List ℕ). PooledByKeys by t b) same k) h

  module _ (n : ℕ) (free : free_start text ≡ own_start n) (names : any_clashes (own_start n) olds ≡ false)
      (no_key : any_clashes (own_start n) (keyed by olds) ≡ false) where
    clear : AllByRecursion (IsClearPlace by (own_start n)) olds
    clear = all_clear by (own_start n) olds (own_texts_stand text) names no_key

    abbrev own_keys : List (List ℕ)
    own_keys = names_from [] (keyed by olds)

    keys_are : keys_of (own_start n) by olds ≡ own_keys
    keys_are = λ i. cond (names i || no_key i) [] own_keys

    abbrev own_entry : List ℕ → Option Entry
    own_entry = entry_in (47 ∷ colons n) by new olds

    abbrev own_bytes : List ℕ
    own_bytes = document_bytes (with_lines by text h.0 h.1 n clear)

    whole : a ≡ prolog (entries (47 ∷ colons n) own_entry own_keys) ++ own_bytes
    whole =
        h.2 ∙ (ap (λ (s : List ℕ). document_pooled s by new (document_of text)) free
        ∙ ap (λ (ks : List (List ℕ)). prolog (entries (47 ∷ colons n) own_entry ks)
        ++ document_bytes (fated (line_fates (47 ∷ colons n) by (line_ends own_entry ks) olds) (document_of text).last)) keys_are)

    regroup : (x f s r y : List ℕ) → (x ++ (f ++ (s ++ r))) ++ y ≡ (x ++ f) ++ (s ++ (r ++ y))
    regroup x f s r y = simp append_assoc

    by_entries : (es : List ℕ) → entries (47 ∷ colons n) own_entry own_keys ≡ es → b ≡ a
    by_entries [] e =
        as_before (own_start n) free
        (λ key s. no_entries (47 ∷ colons n) own_entry own_keys e key (ap (λ (ks : List (List ℕ)). is_seen ks key) (sym keys_are) ∙ s))
    by_entries (x ∷ xs) e =
        let all = entries (47 ∷ colons n) own_entry own_keys in
        let is_a : a ≡ (header ++ all) ++ own_bytes = whole ∙ ap (λ (t : List ℕ). cond (has_bytes t) (header ++ all) [] ++ own_bytes) e
        ∙ ap (λ (c : Bool). cond c (header ++ all) [] ++ own_bytes) (lt-ltb 0 (length (x ∷ xs)) (omega arith)) in
        let w = start_in (47 ∷ colons n) own_entry own_keys x xs e in
        let there : a ≡ (header ++ w.0) ++ (own_start n ++ (w.1 ++ own_bytes)) =
        is_a ∙ (ap (λ (t : List ℕ). (header ++ t) ++ own_bytes) w.2 ∙ regroup header w.0 (own_start n) w.1 own_bytes) in
        let long : n ≤ length a = omega (
          arith,
          ap length there,
          length-append (header ++ w.0) (own_start n ++ (w.1 ++ own_bytes)),
          length-append (own_start n) (w.1 ++ own_bytes),
          own_length n,
        ) in
        let m = free_has_more a (header ++ w.0) (w.1 ++ own_bytes) n there long in
        k.2 ∙ stays_so by text h.0 h.1 n clear a is_a k.0 k.1 m.0 m.2 m.1

pub pooled_again_by_keys : PooledAgainByKeys
pooled_again_by_keys by text a b h k =
    let olds = (document_of text).places in
    let s = start_is (length text) 1 text in
    by_clash s.0 s.1 (any_clashes (own_start s.0) olds || any_clashes (own_start s.0) (keyed by olds)) refl
  where
    by_clash : (n : ℕ) → free_start text ≡ own_start n → (c : Bool) →
        (any_clashes (own_start n) (document_of text).places || any_clashes (own_start n) (keyed by (document_of text).places)) ≡ c → b ≡ a
    by_clash n free true e =
        as_before by text a b h k (own_start n) free
        (λ key t. absurd (true≢false (sym t ∙ ap (λ (c : Bool). is_seen (cond c [] (names_from [] (keyed by (document_of text).places))) key) e)))
    by_clash n free false e =
        let parts = or_parts (any_clashes (own_start n) (document_of text).places) (any_clashes (own_start n) (keyed by (document_of text).places)) e in
        by_entries by text a b h k n free parts.0 parts.1
        (entries (47 ∷ colons n) (own_entry by text a b h k n free parts.0 parts.1) (own_keys by text a b h k n free parts.0 parts.1)) refl
