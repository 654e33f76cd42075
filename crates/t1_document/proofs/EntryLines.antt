-- The lines of entries can stand at the places of their keys.
use Rattle.std.proofs.Common.{◌≡◌, ◌∙◌, ℕ, Bool, true, false, cond, refl, sym, ap, subst, List, [], ◌∷◌, ◌++◌, Option, Some, None}
use Rattle.std.proofs.{lemmas.Bool.{and_parts}, lemmas.Option.{none-some, same_Some}}
use Rattle.std.specs.{Prelude.{◌&&◌, not}, List.{AllByRecursion, list_all}, Option.{option_map}, Str.{bytes_eq}}
use Rattle.t1_grammar.specs.Grammar.{Stops}
use Rattle.t1_text.specs.Words.{is_regular, regular_comes}
use Rattle.t1_document.specs.{declared.pooling.Key.{Key}, declared.entries.Least.{Least}, Documents.{Place}, Rewriting.{NewTexts, can_give, is_seen}}
use Rattle.t1_document.specs.Pooling.{key_of, places_by, line_end, place_line, Entry, leaves, is_so, behind_text, entry_name, takes_line, entry_named}
use Rattle.t1_document.specs.{Pooling.{entry_for, first_from, entry_leaving, entry_by, entry_from, end_by, line_ends}, Apart.{entry_among}}
use Rattle.t1_document.proofs.{Retold.{not_true}, Rewritten.{same_bytes}}

-- what holds of the places of each key holds of each place and its key
pub from_keys : (by : Key) (P : List ℕ → Place → Type 0) (ps : List Place) → ((key : List ℕ) → AllByRecursion (P key) (places_by by key ps)) →
    AllByRecursion (λ p. P (key_of by p.name) p) ps
from_keys by P [] h = tt
from_keys by P (p ∷ ps) h = (
  (subst (λ (b : Bool). AllByRecursion (P (key_of by p.name)) (cond b (p ∷ places_by by (key_of by p.name) ps) (places_by by (key_of by p.name) ps)))
      (same_bytes (key_of by p.name)) (h (key_of by p.name))).0,
  from_keys by P ps (λ key. behind key (bytes_eq (key_of by p.name) key) (h key)),
)
  where
    behind : (key : List ℕ) (b : Bool) → AllByRecursion (P key) (cond b (p ∷ places_by by key ps) (places_by by key ps)) →
        AllByRecursion (P key) (places_by by key ps)
    behind key true k = k.1
    behind key false k = k

-- ---- an entry's lines

takes_of : (start key text : List ℕ) (answers : Bool) (ps : List Place) (e : Entry) → entry_for start key text answers ps ≡ Some e →
    list_all (takes_line start key e.answers) ps ≡ true
takes_of start key text answers ps e h = by_test (is_so answers (leaves text) && list_all (takes_line start key answers) ps) refl h
  where
    by_name : (is_so answers (leaves text) && list_all (takes_line start key answers) ps) ≡ true → (o : Option (List ℕ)) →
        option_map (entry_named text answers) o ≡ Some e → list_all (takes_line start key e.answers) ps ≡ true
    by_name t None k = absurd (none-some e k)
    by_name t (Some name) k =
        let same : entry_named text answers name ≡ e = same_Some (entry_named text answers name) e k in
        ap (λ (x : Entry). list_all (takes_line start key x.answers) ps) (sym same)
        ∙ (and_parts (is_so answers (leaves text)) (list_all (takes_line start key answers) ps) t).1

    by_test : (b : Bool) → (is_so answers (leaves text) && list_all (takes_line start key answers) ps) ≡ b →
        cond b (option_map (entry_named text answers) (entry_name start text (behind_text answers))) None ≡ Some e →
        list_all (takes_line start key e.answers) ps ≡ true
    by_test true t k = by_name t (entry_name start text (behind_text answers)) k
    by_test false t k = absurd (none-some e k)

entry_takes : (least : Least) (start key : List ℕ) (text : Option (List ℕ)) (ps : List Place) (e : Entry) → entry_from least start key text ps ≡ Some e →
    list_all (takes_line start key e.answers) ps ≡ true
entry_takes least start key text ps e h = by_text text (first_from least ps) h
  where
    by_leaving : (t : List ℕ) (o : Option Bool) → entry_leaving start key t o ps ≡ Some e → list_all (takes_line start key e.answers) ps ≡ true
    by_leaving t None k = absurd (none-some e k)
    by_leaving t (Some answers) k = takes_of start key t answers ps e k

    by_text : (o : Option (List ℕ)) (first : Option Place) → entry_by start key o first ps ≡ Some e → list_all (takes_line start key e.answers) ps ≡ true
    by_text None first k = absurd (none-some e k)
    by_text (Some t) None k = absurd (none-some e k)
    by_text (Some t) (Some p) k = by_leaving t (leaves p.text) k

-- where the line can stand, no word goes on behind it
abbrev IsLineFor : List ℕ → List ℕ → List ℕ → Place → Type 0
IsLineFor start key end p = Stops is_regular (end ++ p.rest) × (can_give (place_line start end p.name key ++ p.rest) ≡ true)

stops : (rest : List ℕ) → regular_comes rest ≡ false → Stops is_regular rest
stops [] h = tt
stops (b ∷ bs) h = h

ends_so : (answers : Bool) (rest : List ℕ) → regular_comes rest ≡ false → Stops is_regular (line_end answers ++ rest)
ends_so true rest h = refl
ends_so false rest h = stops rest h

lines_given : (start key : List ℕ) (answers : Bool) (ps : List Place) → list_all (takes_line start key answers) ps ≡ true →
    AllByRecursion (IsLineFor start key (line_end answers)) ps
lines_given start key answers [] h = tt
lines_given start key answers (p ∷ ps) h =
    let parts = and_parts (takes_line start key answers p) (list_all (takes_line start key answers) ps) h in
    let given = can_give (place_line start (line_end answers) p.name key ++ p.rest) in
    let both = and_parts (is_so answers (leaves p.text) && not (regular_comes p.rest)) given parts.0 in
    let ends = not_true (regular_comes p.rest) (and_parts (is_so answers (leaves p.text)) (not (regular_comes p.rest)) both.0).1 in
    ((ends_so answers p.rest ends, both.1), lines_given start key answers ps parts.1)

each_of : (P Q : Place → Type 0) → ((p : Place) → P p → Q p) → (ps : List Place) → AllByRecursion P ps → AllByRecursion Q ps
each_of P Q f [] h = tt
each_of P Q f (p ∷ ps) h = (f p h.0, each_of P Q f ps h.1)

-- ---- the lines of keys

module _ (least : Least) (by : Key) (start : List ℕ) (new : NewTexts) (ps : List Place) (keys : List (List ℕ)) where
  abbrev entry : List ℕ → Option Entry
  entry = entry_among least start by new ps

  abbrev ends : NewTexts
  ends = line_ends entry keys

  pub end_of : (key end : List ℕ) → ends key ≡ Some end → (e : Entry) × (entry key ≡ Some e) × (end ≡ line_end e.answers)
  end_of key end h = by_seen (is_seen keys key) h
    where
      by_entry : (o : Option Entry) → entry key ≡ o → end_by o ≡ Some end → (e : Entry) × (entry key ≡ Some e) × (end ≡ line_end e.answers)
      by_entry None x k = absurd (none-some end k)
      by_entry (Some e) x k = (e, x, sym (same_Some (line_end e.answers) end k))

      by_seen : (b : Bool) → cond b (end_by (entry key)) None ≡ Some end → (e : Entry) × (entry key ≡ Some e) × (end ≡ line_end e.answers)
      by_seen true k = by_entry (entry key) refl k
      by_seen false k = absurd (none-some end k)

  -- the line of a key can stand at a place
  abbrev pub IsGiven : List ℕ → Place → Type 0
  IsGiven key p = (end : List ℕ) → line_ends (entry_among least start by new ps) keys key ≡ Some end → IsLineFor start key end p

  given : (key : List ℕ) → AllByRecursion (IsGiven key) (places_by by key ps)
  given key = by_entry (entry key) refl
    where
      all : (qs : List Place) → AllByRecursion (λ p. Unit {0}) qs
      all [] = tt
      all (q ∷ qs) = (tt, all qs)

      by_entry : (o : Option Entry) → entry key ≡ o → AllByRecursion (IsGiven key) (places_by by key ps)
      by_entry None h =
          each_of (λ p. Unit {0}) (IsGiven key) (λ p u end x. let w = end_of key end x in absurd (none-some w.0 (sym h ∙ w.1))) (places_by by key ps)
          (all (places_by by key ps))
      by_entry (Some e) h =
          each_of (IsLineFor start key (line_end e.answers)) (IsGiven key) (λ p g end x.
          let w = end_of key end x in
          let same : e ≡ w.0 = same_Some e w.0 (sym h ∙ w.1) in
          subst (λ (t : List ℕ). IsLineFor start key t p) (ap (λ (y : Entry). line_end y.answers) same ∙ sym w.2) g) (places_by by key ps)
          (lines_given start key e.answers (places_by by key ps) (entry_takes least start key (new key) (places_by by key ps) e h))

  -- that of its key can stand at each place
  pub all_given : AllByRecursion (λ p. IsGiven (key_of by p.name) p) ps
  all_given = from_keys by IsGiven ps given
