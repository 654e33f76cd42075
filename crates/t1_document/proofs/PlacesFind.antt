-- What a pooled document finds behind each place.
use Rattle.std.proofs.Common.{◌≡◌, ℕ, zero, suc, Bool, true, false, cond, refl, sym, ◌∙◌, ap, subst, List, [], ◌∷◌, ◌++◌}
use Rattle.std.proofs.Common.{map, length, inl, inr, Option, Some, None, is_some, replicate, Result, Ok, append_assoc}
use Rattle.std.proofs.{lemmas.Bool.{cases_Bool, true≢false, or_parts}, lemmas.Option.{none-some, same_Some}, lemmas.List.{append_cancel_left}, lemmas.Slice.Eq.{bytes_eq-Decides}}
use Rattle.std.specs.{Prelude.{◌||◌, codes}, List.{AllByRecursion, list_any, flat_map, concat}, Str.{bytes_eq}}
use Rattle.t1_grammar.specs.{Grammar.{fixed}, Places.{occurs}}
use Rattle.t1_grammar.specs.Grammar.{Stops}
use Rattle.t1_text.specs.Words.{is_regular}
use Rattle.t1_font.specs.{declared.fault.ReadFault.{ReadFault}, FontValue.{FontValue}, ReadFont.{read_font_widely}}
use Rattle.t1_font.proofs.canonical.EntriesWritten.{fixed_read}
use Rattle.t1_document.specs.{declared.pooling.Key.{Key}, declared.entries.Least.{Least}, declared.entries.Least.TheVariants.{Two}, Stretches.{Stretches}, Fonts.{FontText}}
use Rattle.t1_document.specs.{Documents.{Place, document_of}, Rewriting.{NewTexts, Fate, fate_bytes, fated_bytes, is_seen}, Joins.{Outcomes, AreOutcomes, names_from, new_texts, places_under}}
use Rattle.t1_document.specs.{JoinLaws.{FontStaysIn}}
use Rattle.t1_document.specs.Pooling.{own_start, start_from, free_start, key_of, under_key, keyed, places_by, line_end, defined_as}
use Rattle.t1_document.specs.Pooling.{place_line, Entry, behind_text, clashes, any_clashes, entry_bytes, entry_in, entry_part, end_by}
use Rattle.t1_document.specs.Pooling.{keys_of, line_ends, entries, prolog, fate_ending, line_fates, pooled_by}
use Rattle.t1_document.specs.PoolLaws.{Found, with_found, own_name, KeepsOwn, defining, Runs, RunsFront, RunsPart, RunsLines}
use Rattle.t1_document.specs.PoolLaws.{takes_answer, behind_line, RunsStretches, EntersOne, EntersAll, FindsFont, AllFind}
use Rattle.t1_document.specs.{Apart.{entry_among}, ApartLaws.{FindsAlways}}
use Rattle.t1_document.specs.PoolLaws.{place_fates, PlacesFind, KeepsRest, PooledOthersStay, OnePooledByKeys}
use Rattle.t1_document.proofs.{NewTextsDraw.{IsSound, IsGood, places_sound, sound_under, come_to}, Drawn.{stays_in_itself}, OneOutcome.{one_outcome}, Rewritten.{same_bytes, fated_written}}
use Rattle.t1_document.proofs.{RegularNames.{IsRegular, IsNamed, places_named}, OwnTexts.{Own, own_texts_stand}}
use Rattle.t1_document.proofs.{Retold.{no_font_in_line, stands_font}, KeyedPlaces.{keyed_sound, keys_regular}, EntryLines.{IsGiven, all_given}}
use Rattle.t1_document.proofs.{DefiningLines.{regular_both, key_regular, colons_regular, defining_read, renames_read}, EntryParts.{IsEntry, known_entry, font_regular, stretches_of_entry}}

-- ---- names

-- a name that doesn't clash is no name of the pool
apart : (own key name : List ℕ) → clashes (47 ∷ own) name ≡ false → bytes_eq name (own ++ key) ≡ false
apart own key name clear = elim (cases_Bool (bytes_eq name (own ++ key))) [
  | inl e ↦
      let same : name ≡ own ++ key = (bytes_eq-Decides name (own ++ key)).0 e in
      absurd (true≢false (sym (begins own key) ∙ (ap (clashes (47 ∷ own)) (sym same) ∙ clear)))
  | inr e ↦ e
]
  where
    begins : (own key : List ℕ) → clashes (47 ∷ own) (own ++ key) ≡ true
    begins own key = ap is_some (fixed_read (47 ∷ own) key)

-- what is read of one text is one font
same_font : (text : List ℕ) (f g : FontValue) → read_font_widely text ≡ Ok f → read_font_widely text ≡ Ok g → f ≡ g
same_font text f g e h = let both : ◌≡◌ {A = Result FontValue ReadFault} (Ok f) (Ok g) = sym e ∙ h in cc

-- ---- the pool's names, while entries and places are run

module _ (own : List ℕ) (new : NewTexts) (entry : List ℕ → Option Entry)
    (known : (key : List ℕ) (e : Entry) → entry key ≡ Some e → IsEntry (47 ∷ own) (new key) e) (plain : IsRegular own) where
  abbrev start : List ℕ
  start = 47 ∷ own

  -- the font of an entry is found under the pool's name of a key
  pub record Has (key : List ℕ) (e : Entry) (found : Found) : Type 0 where
    pub font : FontValue
    pub spelled : read_font_widely e.text ≡ Ok font
    pub is_found : found (own_name start key) ≡ Some font

  -- it is where the pool's name finds what it found
  pub has_kept : (key : List ℕ) (e : Entry) (before after : Found) → after (own_name start key) ≡ before (own_name start key) → Has key e before →
      Has key e after
  has_kept key e before after k h = record { font = h.font; spelled = h.spelled; is_found = k ∙ h.is_found }

  -- An entry was run: the font that its text spells is found under the pool's name of its key. Under its own name anything may be found then, and under
  -- other names what was.
  pub record Entered (key : List ℕ) (e : Entry) (before after : Found) : Type 0 where
    pub font : FontValue
    pub spelled : read_font_widely e.text ≡ Ok font
    pub in_pool : after (own_name start key) ≡ Some font
    pub others : (name : List ℕ) → bytes_eq (own_name start key) name ≡ false → bytes_eq e.name name ≡ false → after name ≡ before name

  takes : (answers : Bool) → takes_answer (behind_text answers) ≡ true
  takes true = refl
  takes false = refl

  -- that is what its bytes do
  was_entered : (key : List ℕ) (e : Entry) → IsRegular key → IsEntry start (new key) e → (before after : Found) →
      EntersOne start (entry_bytes start key e) before after → Entered key e before after
  was_entered key e plain_key is before after run =
      let named : IsRegular e.name =
      font_regular (e.text ++ behind_text e.answers) (record { name = e.name; text = e.text; rest = behind_text e.answers }) is.found in
      let regular = regular_both own key plain plain_key in
      let parts = subst (λ (x : Stretches). RunsStretches x.0 x.1 before after) (stretches_of_entry own key regular e named is.unmarked) run in
      let font = subst (λ (o : Option FontText). RunsPart o before parts.0) is.found parts.1 (takes e.answers) in
      let lines : (name : List ℕ) → bytes_eq e.name name ≡ false → after name ≡ behind_line (own ++ key, e.name) parts.0 name =
      subst (λ (o : Option (((List ℕ × List ℕ) × List ℕ) × List ℕ)). RunsLines o parts.0 after) (renames_read own key e.name regular named) parts.2 refl in
      let there : (name : List ℕ) → parts.0 name ≡ with_found e.name (Some font.0) before name = λ name. ap (λ (f : Found). f name) font.2 in
      record {
        font = font.0;
        spelled = font.1;
        in_pool = lines (own ++ key) (apart own key e.name is.clear)
            ∙ (ap (λ (b : Bool). cond b (parts.0 e.name) (parts.0 (own ++ key))) (same_bytes (own ++ key))
            ∙ (there e.name ∙ ap (λ (b : Bool). cond b (Some font.0) (before e.name)) (same_bytes e.name)));
        others = λ name n m.
            lines name m
            ∙ (ap (λ (b : Bool). cond b (parts.0 e.name) (parts.0 name)) n
            ∙ (there name ∙ ap (λ (b : Bool). cond b (Some font.0) (before name)) m));
      }

  -- where an entry is run
  kept_one : (k : List ℕ) (e : Entry) → entry k ≡ Some e → (key : List ℕ) → IsRegular key → (before after : Found) →
      EntersOne start (entry_part start key (entry key)) before after → Has k e before → Has k e after
  kept_one k e is key plain_key before after run h = by_entry (entry key) refl run
    where
      by_name : (d : Entry) → entry key ≡ Some d → Entered key d before after → (b : Bool) → bytes_eq (own_name start key) (own_name start k) ≡ b →
          Has k e after
      by_name d t r true n =
          let same : own ++ key ≡ own ++ k = (bytes_eq-Decides (own_name start key) (own_name start k)).0 n in
          let entries : d ≡ e = same_Some d e (sym t ∙ (ap entry (append_cancel_left own key k same) ∙ is)) in
          record {
            font = r.font;
            spelled = ap (λ (x : Entry). read_font_widely x.text) (sym entries) ∙ r.spelled;
            is_found = ap after (sym same) ∙ r.in_pool;
          }
      by_name d t r false n = has_kept k e before after (r.others (own_name start k) n (apart own k d.name (known key d t).clear)) h

      by_entry : (o : Option Entry) → entry key ≡ o → EntersOne start (entry_part start key o) before after → Has k e after
      by_entry None t r = has_kept k e before after (r k) h
      by_entry (Some d) t r =
          by_name d t (was_entered key d plain_key (known key d t) before after r) (bytes_eq (own_name start key) (own_name start k)) refl

  -- the entries of keys, each in its bytes
  abbrev parts_of : List (List ℕ) → List (List ℕ)
  parts_of keys = map (λ key. entry_part start key (entry key)) keys

  kept_all : (k : List ℕ) (e : Entry) → entry k ≡ Some e → (keys : List (List ℕ)) → AllByRecursion IsRegular keys → (before after : Found) →
      EntersAll start (parts_of keys) before after → Has k e before → Has k e after
  kept_all k e is [] plain_keys before after run h = has_kept k e before after (run k) h
  kept_all k e is (key ∷ keys) plain_keys before after run h =
      kept_all k e is keys plain_keys.1 run.0 after run.2 (kept_one k e is key plain_keys.0 before run.0 run.1 h)

  -- behind all entries it is found under each key that has one
  pub has_all : (k : List ℕ) (e : Entry) → entry k ≡ Some e → (keys : List (List ℕ)) → AllByRecursion IsRegular keys → is_seen keys k ≡ true →
      (before after : Found) → EntersAll start (parts_of keys) before after → Has k e after
  has_all k e is [] plain_keys seen before after run = absurd (true≢false (sym seen))
  has_all k e is (key ∷ keys) plain_keys seen before after run =
      by_name (bytes_eq k key) refl seen (λ s. has_all k e is keys plain_keys.1 s run.0 after run.2)
    where
      by_entry : (o : Option Entry) → entry key ≡ o → o ≡ Some e → key ≡ k → EntersOne start (entry_part start key o) before run.0 → Has k e run.0
      by_entry None t i n r = absurd (none-some e i)
      by_entry (Some d) t i n r =
          let same : d ≡ e = same_Some d e i in
          let was = was_entered key d plain_keys.0 (known key d t) before run.0 r in
          record {
            font = was.font;
            spelled = ap (λ (x : Entry). read_font_widely x.text) (sym same) ∙ was.spelled;
            is_found = ap (λ (x : List ℕ). (run.0) (own ++ x)) (sym n) ∙ was.in_pool;
          }

      by_name : (b : Bool) → bytes_eq k key ≡ b → (b || is_seen keys k) ≡ true → (is_seen keys k ≡ true → Has k e after) → Has k e after
      by_name true n s more =
          let same : key ≡ k = sym ((bytes_eq-Decides k key).0 n) in
          kept_all k e is keys plain_keys.1 run.0 after run.2 (by_entry (entry key) refl (ap entry same ∙ is) same run.1)
      by_name false n s more = more s

  -- ---- places

  module _ (by : Key) (keys : List (List ℕ)) where
    abbrev key : Place → List ℕ
    key p = key_of by p.name

    abbrev ends : NewTexts
    ends = line_ends entry keys

    -- a text spells a font in which that of a place stays
    abbrev pub Good : List ℕ → Place → Type 0
    Good text p = (j : FontValue) × (read_font_widely text ≡ Ok j) × FontStaysIn j p

    -- A place's name has regular bytes, no word goes on behind its line, and its text can stand there. Where there are entries, its name doesn't clash; and
    -- the new text of its key is good.
    pub record IsApt (p : Place) : Type 0 where
      pub named : IsRegular p.name
      pub ends_so : (end : List ℕ) → line_ends entry keys (key_of by p.name) ≡ Some end → Stops is_regular (end ++ p.rest)
      pub stands : Own p
      pub clear : (k : List ℕ) → is_seen keys k ≡ true → clashes start p.name ≡ false
      pub good : (text : List ℕ) → new (key p) ≡ Some text → Good text p

    -- a font text was run, which defines the font that it spells, or a line, by which a name finds what the pool's name of its key finds
    abbrev Defined : Option (List ℕ) → Place → Found → Found → Type 0
    Defined None p before after = (font : FontValue) × (read_font_widely p.text ≡ Ok font) × (after ≡ with_found p.name (Some font) before)
    Defined (Some end) p before after = after ≡ with_found p.name (before (own_name start (key p))) before

    -- that is what the bytes at a place do
    defined : (p : Place) → IsApt p → (o : Option (List ℕ)) → ends (key p) ≡ o → (before after : Found) →
        Runs (fate_bytes (fate_ending start by o p) p) before after →
        Defined o p before after
    defined p apt None e before after run =
        subst (λ (o : Option FontText). RunsFront o (defining.read (p.text ++ p.rest)) before after) (stands_font p.text p apt.stands) run
    defined p apt (Some end) e before after run =
        let bytes = place_line start end p.name (key p) ++ p.rest in
        let line : RunsFront None (defining.read bytes) before after =
        subst (λ (o : Option FontText). RunsFront o (defining.read bytes) before after) (no_font_in_line _) run in
        subst (λ (o : Option ((List ℕ × List ℕ) × List ℕ)). RunsFront None o before after)
        (ap defining.read (append_assoc (defined_as (47 ∷ p.name) (47 ∷ (own ++ key p))) end p.rest)
        ∙ defining_read p.name (own ++ key p) (end ++ p.rest) apt.named
        (regular_both own (key p) plain (key_regular by p.name apt.named)) (apt.ends_so end e)) line

    -- the fonts of all entries are found
    abbrev pub HasAll : Found → Type 0
    HasAll found = (k : List ℕ) (e : Entry) → entry k ≡ Some e → is_seen keys k ≡ true → Has k e found

    -- other names keep what they find
    other_name : (p : Place) (font : Option FontValue) (before after : Found) → after ≡ with_found p.name font before → (k : List ℕ) →
        clashes start p.name ≡ false → after (own_name start k) ≡ before (own_name start k)
    other_name p font before after is k clear =
        ap (λ (f : Found). f (own_name start k)) is ∙ ap (λ (b : Bool). cond b font (before (own_name start k))) (apart own k p.name clear)

    -- the name itself finds the font
    this_name : (p : Place) (font : Option FontValue) (before after : Found) → after ≡ with_found p.name font before → after p.name ≡ font
    this_name p font before after is =
        ap (λ (f : Found). f p.name) is ∙ ap (λ (b : Bool). cond b font (before p.name)) (same_bytes p.name)

    -- a key whose lines end somehow has an entry
    with_end : (k end : List ℕ) → ends k ≡ Some end → (is_seen keys k ≡ true) × (e : Entry) × (entry k ≡ Some e)
    with_end k end h = by_seen (is_seen keys k) refl h
      where
        by_entry : is_seen keys k ≡ true → (o : Option Entry) → entry k ≡ o → end_by o ≡ Some end → (is_seen keys k ≡ true) × (e : Entry) × (entry k ≡ Some e)
        by_entry s None t x = absurd (none-some end x)
        by_entry s (Some e) t x = (s, e, t)

        by_seen : (b : Bool) → is_seen keys k ≡ b → cond b (end_by (entry k)) None ≡ Some end → (is_seen keys k ≡ true) × (e : Entry) × (entry k ≡ Some e)
        by_seen true s x = by_entry s (entry k) refl x
        by_seen false s x = absurd (none-some end x)

    module _ (p : Place) (apt : IsApt p) (found before after : Found) (kept : KeepsOwn start found before) (has : HasAll found) where
      -- the name of the place finds its font
      finds : (o : Option (List ℕ)) → ends (key p) ≡ o → Defined o p before after → FindsFont p after
      finds None x run = record {
        font = run.0;
        is_found = this_name p (Some run.0) before after run.2;
        stays = (run.0, run.1, stays_in_itself run.0);
      }
      finds (Some end) x run =
          let w = with_end (key p) end x in
          let h = has (key p) w.1 w.2 w.0 in
          let g = apt.good w.1.text (known (key p) w.1 w.2).of_text in
          let same : g.0 ≡ h.font = same_font w.1.text g.0 h.font g.1 h.spelled in
          record {
            font = h.font;
            is_found = this_name p (before (own_name start (key p))) before after run ∙ (kept (key p) ∙ h.is_found);
            stays = subst (λ (j : FontValue). FontStaysIn j p) same g.2;
          }

      -- and the fonts of all entries are found behind it
      has_behind : (o : Option (List ℕ)) → Defined o p before after → HasAll after
      has_behind None run k e is seen =
          has_kept k e found after (other_name p (Some run.0) before after run.2 k (apt.clear k seen) ∙ kept k) (has k e is seen)
      has_behind (Some end) run k e is seen =
          has_kept k e found after (other_name p (before (own_name start (key p))) before after run k (apt.clear k seen) ∙ kept k) (has k e is seen)

    pub all_find : (ps : List Place) → AllByRecursion IsApt ps → (found : Found) → HasAll found → AllFind start (line_fates start by ends ps) found
    all_find [] apt found has = tt
    all_find (p ∷ ps) apt found has = λ before after kept run.
        let was = defined p apt.0 (ends (key p)) refl before after run in (
          finds p apt.0 found before after kept has (ends (key p)) refl was,
          all_find ps apt.1 after (has_behind p apt.0 found before after kept has (ends (key p)) was),
        )

    -- each of them, whatever was run since the entries
    pub each_finds : (ps : List Place) → AllByRecursion IsApt ps → (found : Found) → HasAll found →
        AllByRecursion (FindsAlways start found) (line_fates start by ends ps)
    each_finds [] apt found has = tt
    each_finds (p ∷ ps) apt found has = (
      λ before after kept run.
          finds p apt.0 found before after kept has (ends (key p)) refl (defined p apt.0 (ends (key p)) refl before after run),
      each_finds ps apt.1 found has,
    )

-- ---- the places of a text

-- each text that keys get is good for their places
abbrev GoodFor : Key → NewTexts → List Place → Type 0
GoodFor by new ps = (k text : List ℕ) → new k ≡ Some text → IsGood (places_under k (keyed by ps)) text

good_behind : (by : Key) (new : NewTexts) (p : Place) (ps : List Place) → GoodFor by new (p ∷ ps) → GoodFor by new ps
good_behind by new p ps h k text e = let g = h k text e in (g.0, g.1, by_name g.0 (bytes_eq (key_of by p.name) k) g.2)
  where
    by_name : (j : FontValue) (b : Bool) →
        AllByRecursion (FontStaysIn j) (cond b (under_key by p ∷ places_under k (keyed by ps)) (places_under k (keyed by ps))) →
        AllByRecursion (FontStaysIn j) (places_under k (keyed by ps))
    by_name j true x = x.1
    by_name j false x = x

good_first : (by : Key) (new : NewTexts) (p : Place) (ps : List Place) → GoodFor by new (p ∷ ps) → (text : List ℕ) →
    new (key_of by p.name) ≡ Some text → (j : FontValue) × (read_font_widely text ≡ Ok j) × FontStaysIn j p
good_first by new p ps h text e =
    let k = key_of by p.name in
    let g = h k text e in
    (g.0, g.1, by_name k g.0 (bytes_eq k k) (same_bytes k) g.2)
  where
    by_name : (k : List ℕ) (j : FontValue) (b : Bool) → b ≡ true →
        AllByRecursion (FontStaysIn j) (cond b (under_key by p ∷ places_under k (keyed by ps)) (places_under k (keyed by ps))) → FontStaysIn j p
    by_name k j true t x = x.0
    by_name k j false t x = absurd (true≢false (sym t))

-- where none passes a test, each fails it
pub none_passes : (test : Place → Bool) (ps : List Place) → list_any test ps ≡ false → AllByRecursion (λ p. test p ≡ false) ps
none_passes test [] h = tt
none_passes test (p ∷ ps) h = let parts = or_parts (test p) (list_any test ps) h in (parts.0, none_passes test ps parts.1)

module _ (least : Least) (by : Key) (places : List Place) (sound : AllByRecursion IsSound places) (named : AllByRecursion IsNamed places)
    (stand : AllByRecursion Own places) (outcomes : Outcomes) (are : AreOutcomes (keyed by places) outcomes) where
  abbrev new : NewTexts
  new = new_texts outcomes

  good : GoodFor by new places
  good k t e =
      come_to k (places_under k (keyed by places)) (sound_under k (keyed by places) (keyed_sound by places sound)) (outcomes k) t (are k) e

  module _ (own : List ℕ) where
    abbrev sign : List ℕ
    sign = 47 ∷ own

    abbrev entered : List ℕ → Option Entry
    entered = entry_among least sign by new places

    abbrev own_keys : List (List ℕ)
    own_keys = keys_of sign by places

    known : (key : List ℕ) (e : Entry) → entered key ≡ Some e → IsEntry sign (new key) e
    known key e h = known_entry least sign key (new key) (places_by by key places) e h

    -- where there are own_keys, no name clashes
    abbrev any : Bool
    any = any_clashes sign places || any_clashes sign (keyed by places)

    clear : (b : Bool) → any ≡ b → (ps : List Place) → (any ≡ false →
        AllByRecursion (λ p. clashes sign p.name ≡ false) ps) → AllByRecursion (λ p. (k : List ℕ) → is_seen own_keys k ≡ true → clashes sign p.name ≡ false) ps
    clear b e [] h = tt
    clear b e (p ∷ ps) h = (λ k seen. by_clash b e k seen (λ n. (h n).0), clear b e ps (λ n. (h n).1))
      where
        by_clash : (b : Bool) → any ≡ b → (k : List ℕ) → is_seen own_keys k ≡ true →
            (any ≡ false → clashes sign p.name ≡ false) → clashes sign p.name ≡ false
        by_clash true c k seen n = absurd (true≢false (sym seen ∙ ap (λ (t : Bool). is_seen (cond t [] (names_from [] (keyed by places))) k) c))
        by_clash false c k seen n = n c

    module _ (plain : IsRegular own) where
      apt : (ps : List Place) → AllByRecursion (λ p. (k : List ℕ) → is_seen own_keys k ≡ true → clashes sign p.name ≡ false) ps → GoodFor by new ps →
          AllByRecursion IsNamed ps → AllByRecursion Own ps →
          AllByRecursion (λ p. IsGiven least by sign new places own_keys (key_of by p.name) p) ps →
          AllByRecursion (IsApt own new entered known plain by own_keys) ps
      apt [] c g n o l = tt
      apt (p ∷ ps) c g n o l = (
        record { named = n.0; ends_so = λ end e. (l.0 end e).0; stands = o.0; clear = c.0; good = good_first by new p ps g },
        apt ps c.1 (good_behind by new p ps g) n.1 o.1 l.1,
      )

      all_apt : AllByRecursion (IsApt own new entered known plain by own_keys) places
      all_apt =
          apt places (clear any refl places
          (λ h. none_passes (λ p. clashes sign p.name) places (or_parts (any_clashes sign places) (any_clashes sign (keyed by places)) h).0)) good
          named stand (all_given least by sign new places own_keys)

      all_have : (before after : Found) → EntersAll sign (map (λ key. entry_part sign key (entered key)) own_keys) before after →
          HasAll own new entered known plain by own_keys after
      all_have before after run k e is seen =
          has_all own new entered known plain k e is own_keys (keys_regular sign by places named) seen before after run

      -- the places, one behind the other
      found : (before after : Found) → EntersAll sign (map (λ key. entry_part sign key (entered key)) own_keys) before after →
          AllFind sign (line_fates sign by (line_ends entered own_keys) places) after
      found before after run = all_find own new entered known plain by own_keys places all_apt after (all_have before after run)

      -- and each of them
      pub each_found : (before after : Found) → EntersAll sign (map (λ key. entry_part sign key (entered key)) own_keys) before after →
          AllByRecursion (FindsAlways sign after) (line_fates sign by (line_ends entered own_keys) places)
      each_found before after run = each_finds own new entered known plain by own_keys places all_apt after (all_have before after run)

-- ---- the laws

-- the start of the pool's names is a slash and regular bytes
abbrev pub HasOwn : List ℕ → Type 0
HasOwn start = (own : List ℕ) × (start ≡ 47 ∷ own) × IsRegular own

pub slash : (more n : ℕ) (text : List ℕ) → HasOwn (start_from more n text)
unfolding start_from
slash zero n text = (codes "pool" ++ replicate n 58, refl, colons_regular n)
slash (suc more) n text = by_free (occurs (fixed (own_start n)) text) (slash more (suc n) text)
  where
    by_free : (b : Bool) → HasOwn (start_from more (suc n) text) → HasOwn (cond b (start_from more (suc n) text) (own_start n))
    by_free true h = h
    by_free false h = (codes "pool" ++ replicate n 58, refl, colons_regular n)

pub places_find : PlacesFind
places_find by text bytes outcomes are before after =
    let ps = (document_of text).places in
    let new = new_texts outcomes in
    let s = slash (length text) 1 text in
    subst (λ (start : List ℕ). EntersAll start (map (λ key. entry_part start key (entry_in start by new ps key)) (keys_of start by ps)) before after →
    AllFind start (line_fates start by (line_ends (entry_in start by new ps) (keys_of start by ps)) ps) after)
    (sym s.1) (found Two by ps (places_sound text bytes) (places_named text) (own_texts_stand text) outcomes are s.0 s.2 before after)

-- ---- what stays

joined_parts : (f : List ℕ → List ℕ) (keys : List (List ℕ)) → flat_map f keys ≡ concat (map f keys)
joined_parts f [] = refl
joined_parts f (key ∷ keys) = ap (λ (x : List ℕ). f key ++ x) (joined_parts f keys)

pub same_places : (f : Place → Fate) (ps : List Place) → map (λ (x : Place × Fate). x.0) (map (λ p. (p, f p)) ps) ≡ ps
same_places f [] = refl
same_places f (p ∷ ps) = ap (λ (qs : List Place). p ∷ qs) (same_places f ps)

-- the end of a key's lines leaves false on the operand stack, or nothing
pub an_end : (entry : List ℕ → Option Entry) (keys : List (List ℕ)) (key end : List ℕ) → line_ends entry keys key ≡ Some end →
    (answers : Bool) × (end ≡ line_end answers)
an_end entry keys key end h = by_seen (is_seen keys key) h
  where
    by_entry : (o : Option Entry) → end_by o ≡ Some end → (answers : Bool) × (end ≡ line_end answers)
    by_entry None k = absurd (none-some end k)
    by_entry (Some e) k = (e.answers, sym (same_Some (line_end e.answers) end k))

    by_seen : (b : Bool) → cond b (end_by (entry key)) None ≡ Some end → (answers : Bool) × (end ≡ line_end answers)
    by_seen true k = by_entry (entry key) k
    by_seen false k = absurd (none-some end k)

pub rests_stay : (from own : List ℕ) (by : Key) (ends_of : NewTexts) → from ≡ 47 ∷ own → IsRegular own →
    ((key end : List ℕ) → ends_of key ≡ Some end → (answers : Bool) × (end ≡ line_end answers)) → (ps : List Place) → AllByRecursion IsNamed ps →
    AllByRecursion KeepsRest (line_fates from by ends_of ps)
rests_stay from own by ends_of is plain an_end_of [] named = tt
rests_stay from own by ends_of is plain an_end_of (p ∷ ps) named =
    (by_end (ends_of (key_of by p.name)) refl, rests_stay from own by ends_of is plain an_end_of ps named.1)
  where
    ends : (answers : Bool) → Stops is_regular (line_end answers)
    ends true = refl
    ends false = tt

    line : (answers : Bool) →
        defining.read (place_line (47 ∷ own) (line_end answers) p.name (key_of by p.name)) ≡ Some ((p.name, own ++ key_of by p.name), line_end answers)
    line answers =
        defining_read p.name (own ++ key_of by p.name) (line_end answers) named.0
        (regular_both own (key_of by p.name) plain (key_regular by p.name named.0)) (ends answers)

    by_end : (o : Option (List ℕ)) → ends_of (key_of by p.name) ≡ o → KeepsRest (p, fate_ending from by o p)
    by_end None e = (p.text, refl, inl refl)
    by_end (Some end) e =
        let a = an_end_of (key_of by p.name) end e in (
          place_line from end p.name (key_of by p.name),
          refl,
          inr (
            (p.name, own ++ key_of by p.name),
            a.0,
            subst (λ (s : List ℕ). defining.read (place_line s end p.name (key_of by p.name)) ≡ Some ((p.name, own ++ key_of by p.name), line_end a.0)) (sym is)
                (subst (λ (t : List ℕ). defining.read (place_line (47 ∷ own) t p.name (key_of by p.name))
                ≡ Some ((p.name, own ++ key_of by p.name), line_end a.0))
                (sym a.1) (line a.0)),
          ),
        )

pub pooled_others_stay : PooledOthersStay
pooled_others_stay = record {
  bytes = λ by new text.
      let d = document_of text in
      let start = free_start text in
      let entry = entry_in start by new d.places in
      let keys = keys_of start by d.places in
      ap (λ (x : List ℕ). prolog (entries start entry keys) ++ x) (fated_written (line_fates start by (line_ends entry keys) d.places) d.last)
      ∙ ap (λ (x : List ℕ). prolog x ++ fated_bytes (place_fates by new text) d.last) (joined_parts (λ key. entry_part start key (entry key)) keys);
  places = λ by new text. same_places _ (document_of text).places;
  rests = λ by new text.
      let ps = (document_of text).places in
      let start = free_start text in
      let s = slash (length text) 1 text in
      rests_stay start s.0 by (line_ends (entry_in start by new ps) (keys_of start by ps)) s.1 s.2 (an_end (entry_in start by new ps) (keys_of start by ps)) ps
      (places_named text);
}

pub one_pooled_by_keys : OnePooledByKeys
one_pooled_by_keys by text a b h k =
    let ps = keyed by (document_of text).places in
    let same : new_texts h.0 ≡ new_texts k.0 = λ i name. one_outcome ps h.0 k.0 h.1 k.1 name i in
    h.2 ∙ (ap (λ (new : NewTexts). pooled_by by new text) same ∙ sym k.2)
