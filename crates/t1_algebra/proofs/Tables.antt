-- Tables of codes, of Subrs and of names: what stands at each key, and how they join.
use Rattle.std.proofs.Common.{◌≡◌, ℕ, Bor, option_map, Bool, true, false, not, cond, T, List, [], ◌∷◌, refl, sym, ◌∙◌, ap, arith, Option, Some, None, is_some, Less, Equal, Greater, ◌&&◌, map, subst}
use Rattle.std.proofs.{Common.{true≢false, nat_cmp, ◌↔◌, inl, inr, ◌⊎◌}, lemmas.Bool.{cases_Bool}, lemmas.Option.{MatchOption-at_none, MatchOption-at_some}, lemmas.Map.Text.{is_eq-slice_cmp}}
use Rattle.std.specs.{Ordering.{is_eq, ordering_then}, FinMap.{find}, Option.{option_copied}, Prelude.{MatchOption}, Str.{bytes_eq}}
use Rattle.t1_join.proofs.{Conflicts.{Says, both_agree, says_first}}
use Rattle.t1_join.specs.{TableMeaning.{TableMeaning, joined_table, TablesAgree}, Meaning.{Meaning, meaning_cmp, of_number, by_number_law, same_meaning}}
use Rattle.t1_join.specs.{Join.{joined_state, State, states_agree, StatesAgree}, TableLaws.{get_joined, same_table}, StateLaws.{same_meaning-true, same_meaning-self}}
use Rattle.t1_font.specs.{Maps.{merged}, Joins.{differing_name}, MadeTables.{numbered}, FontValue.{SparseArray, CharStrings, name_cmp, Encoding, Word, Codes}}
use Rattle.t1_font.proofs.{MapLemmas.{get-map_values}, MadeTables.{keyed, sorted_keyed}}
use Rattle.t1_algebra.specs.{Conflicts.{agrees}, StateTables.{name_meaning, AreNameStates, behind_mark, glyph_table, names_table, AreSought, code_states}, Searches.{IsLowest}}
use Rattle.t1_algebra.specs.{NameStates.{is_sought_in, charstrings_differ, one_lacks}, States.{Agree, code_state, joined_option}}
use Rattle.t1_algebra.proofs.{Words.{list_any, eq_by_cmp, nat_cmp_total, nat_list_cmp_total, same_bytes}, Maps.{get-merged}, Sets.{cases_Option, name_same, cases}, Shares.{bytes_decide}}
use Rattle.std.specs.FinMap as maps

-- a copy of what is borrowed is there if it is
pub some_copied : {V : Type 0} {X : Type 0} (f : V → X) (r : Option (Bor V)) → is_some r ≡ is_some (option_map f (option_copied r))
some_copied f r = grind cases

-- states that agree in tables agree
pub to_agree : (x y : State) → StatesAgree x y → Agree x y
to_agree x y h = grind (cases, same_meaning-true)

-- the value at a key that stands for a number, and nothing at any other key
abbrev pub at_number : (ℕ → Option (List ℕ)) → Meaning → Option Meaning
at_number x [] = None
at_number x (n ∷ []) = x n
at_number x (a ∷ b ∷ rest) = None

-- a key stands for a number or for none
pub cases_key : (q : Meaning) →
    ((n : ℕ) × (q ≡ of_number n)) ⊎ (((x : ℕ → Option (List ℕ)) → at_number x q ≡ None) × ((k : ℕ) → eq_by_cmp meaning_cmp q (of_number k) ≡ false))
cases_key [] = inr (λ x. refl, λ k. refl)
cases_key (n ∷ []) = inl (n, refl)
cases_key (a ∷ b ∷ rest) =
    inr (λ x. refl, λ k. elim (nat_cmp a k) as (λ o. is_eq (ordering_then o Greater) ≡ false) [ Less ↦ refl | Equal ↦ refl | Greater ↦ refl ])

-- keys are the same if their numbers are
pub by_number : (i n : ℕ) → eq_by_cmp meaning_cmp (of_number i) (of_number n) ≡ eq_by_cmp nat_cmp i n
by_number i n = ap is_eq (sym (by_number_law i n))

find_keyed : (es : List (ℕ × List ℕ)) (q : Meaning) → find meaning_cmp q (keyed es) ≡ at_number (λ n. find nat_cmp n es) q
find_keyed [] q = grind (arith, cases_key q)
find_keyed (e ∷ es) q = grind (cases, cases_key q, by_number, find_keyed es q)

module _ (m : SparseArray) where
  -- the entries of a table by number are those of its map
  pub entries-numbered : maps.entries (numbered m) ≡ keyed (maps.entries m)
  entries-numbered = maps.entries-from_sorted meaning_cmp (keyed (maps.entries m)) (subst T (sym (sorted_keyed (maps.entries m))) (maps.entries_sorted m))

  -- a table by number has the values of its map
  pub get-numbered : (q : Meaning) → maps.get (numbered m) q ≡ at_number (maps.get m) q
  get-numbered q = grind (arith, maps.get-entries (numbered m) q, entries-numbered, find_keyed (maps.entries m) q, cases_key q, maps.get-entries m)

-- a table with the values of a map is the map as a table
pub numbered_is : (t : TableMeaning) (m : SparseArray) → ((q : Meaning) → maps.get t q ≡ at_number (maps.get m) q) → t ≡ numbered m
numbered_is t m h = same_table t (numbered m) (λ q. h q ∙ sym (get-numbered m q))

pub numbered-empty : maps.empty ≡ numbered maps.empty
numbered-empty =
    numbered_is maps.empty maps.empty (λ q. grind (arith, maps.get-empty {X = Meaning} meaning_cmp q, maps.get-empty {X = List ℕ} nat_cmp, cases_key q))

pub numbered-insert : (m : SparseArray) (n : ℕ) (v : List ℕ) → maps.insert (numbered m) (of_number n) v ≡ numbered (maps.insert m n v)
numbered-insert m n v = numbered_is _ (maps.insert m n v) (λ q. grind
    (cases, maps.get-insert nat_list_cmp_total (numbered m) (of_number n) v q, get-numbered m q, cases_key q, by_number, maps.get-insert nat_cmp_total m n v))

-- a table shows these values at the keys that stand for numbers, and nothing else
abbrev pub Shows : TableMeaning → (ℕ → Option (List ℕ)) → Type 0
Shows t x = (q : Meaning) → maps.get t q ≡ at_number x q

-- the table of an Encoding shows the name of each code
pub codes_shown : (e : Encoding) → Shows (code_states e) (code_state e)
codes_shown (Word w) q = grind (arith, maps.get-empty {X = Meaning} meaning_cmp q, cases_key q)
codes_shown (Codes t) q = get-numbered t q

module _ (s t : TableMeaning) (x y : ℕ → Option (List ℕ)) (shows : Shows s x) (also : Shows t y) where
  -- tables agree if what they show does
  pub shown_agree : ((n : ℕ) → Agree (x n) (y n)) → TablesAgree s t
  shown_agree h q = grind (cases, shows q, also q, cases_key q, h, same_meaning-self)

  -- tables that agree show what agrees
  pub agree_shown : TablesAgree s t → (n : ℕ) → Agree (x n) (y n)
  agree_shown h n = to_agree (x n) (y n) (grind (arith, shows (of_number n), also (of_number n), h (of_number n)))

  -- a table that shows the joined values is the joined table
  pub shown_joined : (j : TableMeaning) (z : ℕ → Option (List ℕ)) → Shows j z → ((n : ℕ) → z n ≡ joined_option (x n) (y n)) → j ≡ joined_table s t
  shown_joined j z third h = same_table j (joined_table s t) (λ q. grind (cases, get_joined s t q, shows q, also q, third q, cases_key q, h))

-- what the charstring of a glyph means in a table
abbrev marked : Option (List ℕ) → State
marked x = option_map (λ c. name_meaning (Some c)) x

-- ---- what stands at a name

-- at a name stands its glyph, or else that it is sought
pub get-name : (g : CharStrings) (s : TableMeaning) (n : Meaning) → maps.get (names_table g s) n ≡ joined_state (marked (maps.get g n)) (maps.get s n)
get-name g s n =
    get_joined (glyph_table g) s n ∙ ap (λ x. joined_state x (maps.get s n)) (get-map_values nat_list_cmp_total name_same (λ n c. name_meaning (Some c)) g n)

state_of : (x : Option (List ℕ)) (y : State) → ((v : Meaning) → y ≡ Some v → v ≡ []) →
    (z : Option (Option (List ℕ))) × (joined_state (marked x) y ≡ option_map name_meaning z)
state_of (Some c) y h = (Some (Some c), refl)
state_of None None h = (None, refl)
state_of None (Some v) h = (Some None, ap Some (h v refl))

module _ (g : CharStrings) (s : TableMeaning) (are : AreSought s) (t : TableMeaning) (is : names_table g s ≡ t) (n : Meaning) where
  at : maps.get t n ≡ joined_state (marked (maps.get g n)) (maps.get s n)
  at = sym (ap (λ (t : TableMeaning). maps.get t n) is) ∙ get-name g s n

  -- the charstring of a name is its glyph's
  pub charstring_in : behind_mark (maps.get t n) ≡ maps.get g n
  charstring_in = grind (cases, at, are n)

  -- a name is sought if it has no glyph and is one of the sought names
  pub seeks_in : is_sought_in (maps.get t n) ≡ (not (maps.contains_key g n) && maps.contains_key s n)
  seeks_in = grind (cases, at, are n)

  -- if a name has no glyph, it is sought if it is one of the sought names
  pub seeks_else : (b y : Bool) → b ≡ is_some (behind_mark (maps.get t n)) → b ≡ false → y ≡ maps.contains_key s n → y ≡ is_sought_in (maps.get t n)
  seeks_else b y e none k = grind (arith, charstring_in, seeks_in)

  -- the state of a name is a charstring, or sought, or nothing
  pub state_in : (z : Option (Option (List ℕ))) × (maps.get t n ≡ option_map name_meaning z)
  state_in = let z = state_of (maps.get g n) (maps.get s n) (are n) in (z.0, at ∙ z.1)

-- ---- tables that agree

-- meanings are the same if their bytes are
pub meanings_as_bytes : (v w : Meaning) → same_meaning v w ≡ same_bytes v w
meanings_as_bytes v w = grind (cases, same_meaning-true v w, same_meaning-self v, bytes_decide.so v w, bytes_decide.self v)

module _ (t u : TableMeaning) (a : AreNameStates t) (b : AreNameStates u) where
  -- the states of a name agree exactly if they are no two charstrings that differ, and none is sought that the other has
  agree_at : (n : Meaning) →
      states_agree (maps.get t n) (maps.get u n) ≡ (not (charstrings_differ (maps.get t n) (maps.get u n)) && not (one_lacks (maps.get t n) (maps.get u n)))
  agree_at n = grind (arith, (a n).1, (b n).1, cases_Option (a n).0, cases_Option (b n).0, cases_Option {X = List ℕ}, meanings_as_bytes, cases_Bool)

  -- tables of names agree exactly if no charstrings differ and no name is lacking
  pub names_agree : TablesAgree t u ↔
      (((n : Meaning) → charstrings_differ (maps.get t n) (maps.get u n) ≡ false) × ((n : Meaning) → one_lacks (maps.get t n) (maps.get u n) ≡ false))
  names_agree = (
    λ k. (λ n. grind (cases, agree_at n, k n), λ n. grind (cases, agree_at n, k n)),
    λ k n. agree_at n ∙ (λ i. not (k.0 n i) && not (k.1 n i)),
  )

-- ---- the lowest name at which charstrings differ

agrees_so : (x y : Option (List ℕ)) → agrees x y ≡ both_agree bytes_eq x y
agrees_so x y = grind (cases, is_eq-slice_cmp)

-- what a pass over two tables of glyphs meets is the lowest name at which their charstrings differ
pub lowest_met : (g h : CharStrings) (p : List ℕ → Bool) → ((n : List ℕ) → p n ≡ not (agrees (maps.get g n) (maps.get h n))) →
    (r : Option (List ℕ)) → r ≡ differing_name g h → IsLowest name_cmp p r
lowest_met g h p is r e = lowest r (subst (Says name_cmp agree) (sym e)
    (says_first nat_list_cmp_total bytes_eq (maps.entries g) (maps.entries h) (maps.entries_sorted g) (maps.entries_sorted h)))
  where
    agree : List ℕ → Bool
    agree n = both_agree bytes_eq (find name_cmp n (maps.entries g)) (find name_cmp n (maps.entries h))

    fails : (n : List ℕ) → p n ≡ not (agree n)
    fails n = is n ∙ ap not (agrees_so (maps.get g n) (maps.get h n) ∙ (λ i. both_agree bytes_eq (maps.get-entries g n i) (maps.get-entries h n i)))

    lowest : (r : Option (List ℕ)) → Says name_cmp agree r → IsLowest name_cmp p r
    lowest None k = λ n. fails n ∙ ap not (k n)
    lowest (Some q) k = record { it = fails q ∙ ap not k.0; none_lower = λ n l. fails n ∙ ap not (k.1 n l) }

module _ (p : List ℕ → Bool) where
  -- if nothing is answered, nothing passes
  pub none_of : (r : Option (Bor (List ℕ))) (b : Bool) → is_some r ≡ not b → b ≡ true →
      IsLowest name_cmp p (option_map (λ n. n.now) r) → (n : List ℕ) → p n ≡ false
  none_of r b e t h n = grind (cases, e, t, h)

  -- if something is answered, something passes
  pub not_none : (r : Option (List ℕ)) → is_some r ≡ true → IsLowest name_cmp p r → ¬ ((n : List ℕ) → p n ≡ false)
  not_none None s h k = true≢false (sym s)
  not_none (Some q) s h k = true≢false (sym h.it ∙ k q)

  -- if nothing passes, nothing is answered
  pub none_is : (r : Option (Bor (List ℕ))) (b : Bool) → is_some r ≡ not b →
      IsLowest name_cmp p (option_map (λ n. n.now) r) → ((n : List ℕ) → p n ≡ false) → b ≡ true
  none_is r b e h k = grind (cases, e, h, k)

module _ (g : CharStrings) (s : TableMeaning) (are : AreSought s) (t : TableMeaning) (is : names_table g s ≡ t)
    (h : CharStrings) (r : TableMeaning) (seek : AreSought r) (u : TableMeaning) (so : names_table h r ≡ u) where
  -- what a pass over both tables of glyphs meets is the lowest name at which the states are charstrings that differ
  pub lowest_differing : (q : Option (List ℕ)) → q ≡ differing_name g h → IsLowest name_cmp (λ n. charstrings_differ (maps.get t n) (maps.get u n)) q
  lowest_differing = lowest_met g h (λ n. charstrings_differ (maps.get t n) (maps.get u n))
      (λ n. ap not (λ i. agrees (charstring_in g s are t is n i) (charstring_in h r seek u so n i)))

  -- sought names agree with sought names
  pub sought_agree : TablesAgree s r
  sought_agree n = grind (cases, are n, seek n, same_meaning-self)

  -- the table of joined glyphs and joined sought names is the joined table
  pub names_join : (j : CharStrings) (k : TableMeaning) → j ≡ merged g h → k ≡ joined_table s r → TablesAgree t u → names_table j k ≡ joined_table t u
  names_join j k ej ek a = same_table (names_table j k) (joined_table t u) (λ n.
      let merges = get-merged nat_list_cmp_total name_same g h n in
      grind (cases, get-name j k n, ej, ek, merges, get_joined s r n, get_joined t u n, at g s are t is n, at h r seek u so n, a n, are n, same_meaning-true))

  -- what one pass that joins both tables of glyphs answers
  abbrev pub Passed : Option CharStrings → Type 0
  Passed o = MatchOption o (is_some (differing_name g h) ≡ true) (λ m. (m ≡ merged g h) × (differing_name g h ≡ None))

  -- if it answers nothing, the tables don't agree
  pub not_passed : (o : Option CharStrings) → o ≡ None → Passed o → ¬ TablesAgree t u
  not_passed o e m k =
      not_none _ _ (MatchOption-at_none _ _ e m) (lowest_differing _ refl) ((names_agree t u (state_in g s are t is) (state_in h r seek u so)).0 k).0

  -- if it answers a table and no name is lacking, the tables agree, and with the joined sought names it is the joined table
  pub passed : (o : Option CharStrings) (j : CharStrings) → o ≡ Some j → Passed o → ((n : Meaning) → one_lacks (maps.get t n) (maps.get u n) ≡ false) →
      (k : TableMeaning) → k ≡ joined_table s r → TablesAgree t u × (names_table j k ≡ joined_table t u)
  passed o j e m free k so_far =
      let p = MatchOption-at_some _ _ j e m in
      let a = (names_agree t u (state_in g s are t is) (state_in h r seek u so)).1 (lowest_differing None (sym p.1), free) in
      (a, names_join j k p.0 so_far a)

  -- joined sought names are sought names
  pub are_joined : (k : TableMeaning) → k ≡ joined_table s r → AreSought k
  are_joined k e n v has = grind (cases, e, has, get_joined s r n, are n, seek n)

-- ---- sought names, as the code puts them in

-- the state of a name once all names that are left are put in
abbrev pub with_sought : TableMeaning → List (Meaning × Meaning) → Meaning → State
with_sought t es q = cond (list_any (eq_by_cmp meaning_cmp q) (map (λ e. e.0) es)) (Some []) (maps.get t q)

-- putting in the next name leaves the state in the end as it was
pub sought_next : (t u : TableMeaning) (e : Meaning × Meaning) (es : List (Meaning × Meaning)) (q : Meaning) → u ≡ maps.insert t e.0 [] →
    with_sought u es q ≡ with_sought t (e ∷ es) q
sought_next t u e es q is = grind (cases, is, maps.get-insert nat_list_cmp_total t e.0 [] q)

-- once the names of all seekers are put in, each of them is sought
pub sought_all : (t s : TableMeaning) (es : List (Meaning × Meaning)) (q : Meaning) → t ≡ maps.empty → es ≡ maps.entries s →
    with_sought t es q ≡ cond (maps.contains_key s q) (Some []) None
sought_all t s es q none e = ap (λ es. with_sought t es q) e
    ∙ (λ i. cond (sym (maps.contains_key-keys s q) i) (Some []) ((ap (λ (t : TableMeaning). maps.get t q) none ∙ maps.get-empty meaning_cmp q) i))

-- names that are put in are sought
pub only_sought : (s seekers : TableMeaning) → ((q : Meaning) → maps.get s q ≡ cond (maps.contains_key seekers q) (Some []) None) → AreSought s
only_sought s seekers h n v is = grind (cases, h n)
