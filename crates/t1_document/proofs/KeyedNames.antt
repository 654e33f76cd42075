-- The names of the fonts that keys get, and the entries of keys as places.
use Rattle.std.proofs.Common.{◌≡◌, ℕ, ◌∙◌, Bool, true, false, cond, refl, sym, ap, inl, inr, subst, List, [], ◌∷◌, ◌++◌, Option, Some, None, Result, Ok, Err}
use Rattle.std.proofs.{lemmas.Bool.{true≢false, and_parts, or_parts, cases_Bool}, lemmas.Option.{none-some, same_Some}, lemmas.Slice.Eq.{bytes_eq-Decides}}
use Rattle.std.specs.{Prelude.{◌||◌}, List.{AllByRecursion, list_all}, Option.{option_and_then}, Str.{bytes_eq}}
use Rattle.t1_bytes.specs.White.{has_bytes}
use Rattle.t1_font.specs.{declared.fault.ReadFault.{ReadFault}, FontValue.{FontValue}}
use Rattle.t1_text.{specs.Tags.{untagged}, proofs.TagLemmas.{untagged_twice}}
use Rattle.t1_document.specs.{declared.pooling.Key.{Key}, declared.pooling.Key.TheVariants.{Name, Family}, declared.joins.Outcome.{Outcome}, declared.joins.Outcome.TheVariants.{Same, Joined, Stays}}
use Rattle.t1_document.specs.{Fonts.{spelled_name}, Documents.{Place}, Rewriting.{can_stand, is_seen}, Families.{family}}
use Rattle.t1_document.specs.Joins.{Outcomes, AreOutcomes, names_from, places_under, fonts_of_places, new_texts, text_for_places, ComeTo, OfPlaces, OfFonts}
use Rattle.t1_document.specs.Pooling.{key_of, under_key, keyed, places_by, Entry, clashes, first_of_several}
use Rattle.t1_document.proofs.{FontLemmas.{font_stands}, OwnTexts.{Own}, Retold.{stands_font}, OneOutcome.{same_text}, PrologParts.{entry_place, with_place, entry_places}}

-- ---- keys

-- the key of a key is itself
pub key_twice : (by : Key) (name : List ℕ) → key_of by (key_of by name) ≡ key_of by name
key_twice Name name = refl
key_twice Family name = by_any (has_bytes (untagged name)) refl
  where
    by_any : (b : Bool) → has_bytes (untagged name) ≡ b → family (cond b (untagged name) name) ≡ cond b (untagged name) name
    by_any true e =
        ap (λ (t : List ℕ). cond (has_bytes t) t (untagged name)) (untagged_twice name) ∙ ap (λ (b : Bool). cond b (untagged name) (untagged name)) e
    by_any false e = ap (λ (b : Bool). cond b (untagged name) name) e

-- names, each of which stands once
abbrev pub Distinct : List (List ℕ) → Type 0
Distinct [] = Unit {0}
Distinct (k ∷ ks) = (is_seen ks k ≡ false) × Distinct ks

-- what was seen isn't among names
not_again : (qs : List Place) (seen : List (List ℕ)) (name : List ℕ) → is_seen seen name ≡ true → is_seen (names_from seen qs) name ≡ false
not_again [] seen name h = refl
not_again (q ∷ qs) seen name h =
    by_seen (is_seen seen q.name) refl (bytes_eq name q.name) refl (not_again qs seen name h) (λ k. not_again qs (q.name ∷ seen) name k)
  where
    by_seen : (b : Bool) → is_seen seen q.name ≡ b → (c : Bool) → bytes_eq name q.name ≡ c → is_seen (names_from seen qs) name ≡ false →
        (is_seen (q.name ∷ seen) name ≡ true → is_seen (names_from (q.name ∷ seen) qs) name ≡ false) →
        is_seen (cond b (names_from seen qs) (q.name ∷ names_from (q.name ∷ seen) qs)) name ≡ false
    by_seen true e c k fewer more = fewer
    by_seen false e true k fewer more =
        absurd (true≢false (sym h ∙ (ap (is_seen seen) ((bytes_eq-Decides name q.name).0 k) ∙ e)))
    by_seen false e false k fewer more =
        ap (λ (c : Bool). c || is_seen (names_from (q.name ∷ seen) qs) name) k ∙ more (ap (λ (c : Bool). c || is_seen seen name) k ∙ h)

pub names_distinct : (seen : List (List ℕ)) (qs : List Place) → Distinct (names_from seen qs)
names_distinct seen [] = tt
names_distinct seen (q ∷ qs) = by_seen (is_seen seen q.name) (names_distinct seen qs) (names_distinct (q.name ∷ seen) qs)
  where
    itself : is_seen (q.name ∷ seen) q.name ≡ true
    itself = ap (λ (b : Bool). b || is_seen seen q.name) ((bytes_eq-Decides q.name q.name).1 refl)

    by_seen : (b : Bool) → Distinct (names_from seen qs) → Distinct (names_from (q.name ∷ seen) qs) →
        Distinct (cond b (names_from seen qs) (q.name ∷ names_from (q.name ∷ seen) qs))
    by_seen true fewer more = fewer
    by_seen false fewer more = (not_again qs (q.name ∷ seen) q.name itself, more)

other_way : (a b : List ℕ) → bytes_eq a b ≡ false → bytes_eq b a ≡ false
other_way a b h = elim (cases_Bool (bytes_eq b a)) [
  | inl e ↦ absurd (true≢false (sym ((bytes_eq-Decides a b).1 (sym ((bytes_eq-Decides b a).0 e))) ∙ h))
  | inr e ↦ e
]

-- a key that isn't among those of places has no places
pub unseen : (by : Key) (key : List ℕ) (seen : List (List ℕ)) (qs : List Place) → is_seen seen key ≡ false →
    is_seen (names_from seen (keyed by qs)) key ≡ false → places_by by key qs ≡ []
unseen by key seen [] h k = refl
unseen by key seen (q ∷ qs) h k =
    by_seen (is_seen seen (key_of by q.name)) refl k (λ n. unseen by key seen qs h n) (λ s n. unseen by key (key_of by q.name ∷ seen) qs s n)
  where
    dropped : bytes_eq (key_of by q.name) key ≡ false → places_by by key qs ≡ [] →
        cond (bytes_eq (key_of by q.name) key) (q ∷ places_by by key qs) (places_by by key qs) ≡ []
    dropped e none = ap (λ (b : Bool). cond b (q ∷ places_by by key qs) (places_by by key qs)) e ∙ none

    by_seen : (b : Bool) → is_seen seen (key_of by q.name) ≡ b →
        is_seen (cond b (names_from seen (keyed by qs)) (key_of by q.name ∷ names_from (key_of by q.name ∷ seen) (keyed by qs))) key ≡ false →
        (is_seen (names_from seen (keyed by qs)) key ≡ false → places_by by key qs ≡ []) →
        (is_seen (key_of by q.name ∷ seen) key ≡ false → is_seen (names_from (key_of by q.name ∷ seen) (keyed by qs)) key ≡ false →
        places_by by key qs ≡ []) →
        cond (bytes_eq (key_of by q.name) key) (q ∷ places_by by key qs) (places_by by key qs) ≡ []
    by_seen true e n fewer more = dropped (elim (cases_Bool (bytes_eq (key_of by q.name) key)) [
      | inl s ↦ absurd (true≢false (sym e ∙ (ap (is_seen seen) ((bytes_eq-Decides (key_of by q.name) key).0 s) ∙ h)))
      | inr s ↦ s
    ]) (fewer n)
    by_seen false e n fewer more =
        let parts = or_parts (bytes_eq key (key_of by q.name)) (is_seen (names_from (key_of by q.name ∷ seen) (keyed by qs)) key) n in
        dropped (other_way key (key_of by q.name) parts.0) (more (ap (λ (c : Bool). c || is_seen seen key) parts.0 ∙ h) parts.1)

pub seen_holds : (Q : List ℕ → Type 0) (ks : List (List ℕ)) (key : List ℕ) → AllByRecursion Q ks → is_seen ks key ≡ true → Q key
seen_holds Q [] key h s = absurd (true≢false (sym s))
seen_holds Q (k ∷ ks) key h s = by_name (bytes_eq key k) refl s (seen_holds Q ks key h.1)
  where
    by_name : (b : Bool) → bytes_eq key k ≡ b → (b || is_seen ks key) ≡ true → (is_seen ks key ≡ true → Q key) → Q key
    by_name true e t more = subst Q (sym ((bytes_eq-Decides key k).0 e)) h.0
    by_name false e t more = more t

-- ---- names of the fonts that keys get

-- the name that a place's text spells
pub place_spelled : (p : Place) → Own p → spelled_name p.text ≡ Some p.name
place_spelled p own = (font_stands (p.text ++ p.rest) (record { name = p.name; text = p.text; rest = p.rest }) (stands_font p.text p own)).name

-- a place of regular use: its text can stand there, and neither its name nor its key clashes
pub record IsClearPlace (by : Key) (start : List ℕ) (p : Place) : Type 0 where
  pub stands : Own p
  pub name : clashes start p.name ≡ false
  pub key : clashes start (key_of by p.name) ≡ false

module _ (by : Key) (start key : List ℕ) where
  -- a name with this key, which doesn't clash
  abbrev pub IsOf : List ℕ → Type 0
  IsOf name = (key_of by name ≡ key) × (clashes start name ≡ false)

  -- a place under this key, whose text has such a name, and which is one itself
  abbrev IsUnderKey : Place → Type 0
  IsUnderKey q = (q.name ≡ key) × ((name : List ℕ) → spelled_name q.text ≡ Some name → IsOf name) × IsOf key

  under_known : (ps : List Place) → AllByRecursion (IsClearPlace by start) ps → AllByRecursion IsUnderKey (places_under key (keyed by ps))
  under_known [] h = tt
  under_known (p ∷ ps) h = by_key (bytes_eq (key_of by p.name) key) refl (under_known ps h.1)
    where
      by_key : (b : Bool) → bytes_eq (key_of by p.name) key ≡ b → AllByRecursion IsUnderKey (places_under key (keyed by ps)) →
          AllByRecursion IsUnderKey (cond b (under_key by p ∷ places_under key (keyed by ps)) (places_under key (keyed by ps)))
      by_key true e more =
          let same : key_of by p.name ≡ key = (bytes_eq-Decides (key_of by p.name) key).0 e in
          let own : IsOf p.name = (same, h.0.name) in (
            (
              same,
              λ name s. subst IsOf (same_Some p.name name (sym (place_spelled p h.0.stands) ∙ s)) own,
              (ap (key_of by) (sym same) ∙ (key_twice by p.name ∙ same), ap (clashes start) (sym same) ∙ h.0.key),
            ),
            more,
          )
      by_key false e more = more

  of_fonts : (q : Place) (qs : List Place) → IsUnderKey q → (r : Result (List FontValue) ReadFault) (o : Outcome) → OfFonts key (q ∷ qs) r o →
      (text : List ℕ) → text_for_places o ≡ Some text → (name : List ℕ) → spelled_name text ≡ Some name → IsOf name
  of_fonts q qs u (Err fault) o h text e name s = absurd (none-some text (ap text_for_places (sym h) ∙ e))
  of_fonts q qs u (Ok fs) (Same t) h text e name s = absurd h
  of_fonts q qs u (Ok fs) (Stays why) h text e name s = absurd (none-some text e)
  of_fonts q qs u (Ok fs) (Joined t) h text e name s =
      let can = (and_parts (can_stand t.items q) (list_all (can_stand t.items) qs) h.1).0 in
      let spelled : spelled_name t.items ≡ Some q.name =
      (font_stands (t.items ++ q.rest) (record { name = q.name; text = t.items; rest = q.rest }) (stands_font t.items q can)).name in
      let same : q.name ≡ name = same_Some q.name name (sym spelled ∙ (ap spelled_name (same_Some t.items text e) ∙ s)) in
      subst IsOf (sym u.0 ∙ same) u.2

  of_places : (q : Place) (qs : List Place) → IsUnderKey q → (b : Bool) (o : Outcome) → OfPlaces key (q ∷ qs) q.text b o →
      (text : List ℕ) → text_for_places o ≡ Some text → (name : List ℕ) → spelled_name text ≡ Some name → IsOf name
  of_places q qs u true o h text e name s =
      u.1 name (ap spelled_name (same_Some q.text text (sym (same_text q.text o h) ∙ e)) ∙ s)
  of_places q qs u false o h text e name s = of_fonts q qs u (fonts_of_places (q ∷ qs)) o h text e name s

  text_names : (qs : List Place) → AllByRecursion IsUnderKey qs → (o : Option Outcome) → ComeTo key qs o → (text : List ℕ) →
      option_and_then text_for_places o ≡ Some text → (name : List ℕ) → spelled_name text ≡ Some name → IsOf name
  text_names [] u o h text e name s = absurd (none-some text (ap (option_and_then text_for_places) (sym h) ∙ e))
  text_names (q ∷ qs) u None h text e name s = absurd h
  text_names (q ∷ qs) u (Some o) h text e name s = of_places q qs u.0 (list_all (λ r. bytes_eq q.text r.text) qs) o h text e name s

  -- the name of the font that a key gets
  pub new_named : (ps : List Place) → AllByRecursion (IsClearPlace by start) ps → (outcomes : Outcomes) → AreOutcomes (keyed by ps) outcomes →
      (text : List ℕ) → new_texts outcomes key ≡ Some text → (name : List ℕ) → spelled_name text ≡ Some name → IsOf name
  new_named ps h outcomes are = text_names (places_under key (keyed by ps)) (under_known ps h) (outcomes key) (are key)

-- ---- entries as places

module _ (by : Key) (entry : List ℕ → Option Entry) (of_key : (key : List ℕ) (e : Entry) → entry key ≡ Some e → key_of by e.name ≡ key) where
  -- a key without an entry has no place among them
  pub none_of : (key : List ℕ) (ks : List (List ℕ)) → (is_seen ks key ≡ true → entry key ≡ None) → places_by by key (entry_places entry ks) ≡ []
  none_of key [] h = refl
  none_of key (k ∷ ks) h = by_entry (entry k) refl (none_of key ks later)
    where
      later : is_seen ks key ≡ true → entry key ≡ None
      later s = h (either (bytes_eq key k) s)
        where
          either : (b : Bool) → is_seen ks key ≡ true → (b || is_seen ks key) ≡ true
          either true t = refl
          either false t = t

      by_entry : (o : Option Entry) → entry k ≡ o → places_by by key (entry_places entry ks) ≡ [] →
          places_by by key (with_place o (entry_places entry ks)) ≡ []
      by_entry None e more = more
      by_entry (Some d) e more = by_key (bytes_eq (key_of by d.name) key) refl
        where
          by_key : (b : Bool) → bytes_eq (key_of by d.name) key ≡ b →
              cond b (entry_place d ∷ places_by by key (entry_places entry ks)) (places_by by key (entry_places entry ks)) ≡ []
          by_key false t = more
          by_key true t =
              let same : key ≡ k = sym ((bytes_eq-Decides (key_of by d.name) key).0 t) ∙ of_key k d e in
              let here : is_seen (k ∷ ks) key ≡ true = ap (λ (b : Bool). b || is_seen ks key) ((bytes_eq-Decides key k).1 same) in
              absurd (none-some d (sym (h here) ∙ (ap entry same ∙ e)))

  -- and no key has several
  pub few_of : (key : List ℕ) (ks : List (List ℕ)) → Distinct ks → first_of_several (places_by by key (entry_places entry ks)) ≡ None
  few_of key [] d = refl
  few_of key (k ∷ ks) d = by_entry (entry k) refl (few_of key ks d.1)
    where
      by_entry : (o : Option Entry) → entry k ≡ o → first_of_several (places_by by key (entry_places entry ks)) ≡ None →
          first_of_several (places_by by key (with_place o (entry_places entry ks))) ≡ None
      by_entry None e more = more
      by_entry (Some x) e more = by_key (bytes_eq (key_of by x.name) key) refl
        where
          by_key : (b : Bool) → bytes_eq (key_of by x.name) key ≡ b →
              first_of_several (cond b (entry_place x ∷ places_by by key (entry_places entry ks)) (places_by by key (entry_places entry ks))) ≡ None
          by_key false t = more
          by_key true t =
              let same : key ≡ k = sym ((bytes_eq-Decides (key_of by x.name) key).0 t) ∙ of_key k x e in
              let none = none_of key ks (λ s. absurd (true≢false (sym s ∙ (ap (is_seen ks) same ∙ d.0)))) in
              ap (λ (qs : List Place). first_of_several (entry_place x ∷ qs)) none
