-- Worked rows of what is kept, of the states of fonts and of conflicts: definitions over sets and maps, computed over lists.
use Rattle.std.proofs.Common.{◌≡◌, ℕ, Bool, true, not, ◌&&◌, ◌||◌, T, List, [], ◌∷◌, ◌++◌, map, filter, flat_map, refl, sym, ◌∙◌, ap, Ordering, Option, None, is_some, unwrap_or, false, cond, Some}
use Rattle.std.proofs.{Common.{option_map}, lemmas.List.Folds.{list_all-append, list_all-map}}
use Rattle.std.specs.{Prelude.{codes}, List.{list_any, list_all}, Ordering.{eq_by_cmp, nat_cmp}, Cmp.{IsTotalOrder, both_ways, nat_cmp_total}, Cmp.Lexicographic.{nat_list_cmp_total}}
use Rattle.std.specs.{FinMap.{find, is_sorted}, FinSet.{FinSet, IsAntisymmetric, nat_cmp-IsAntisymmetric}}
use Rattle.t1_join.specs.{Join.{joined_state}, Meaning.{of_number}, TableLaws.{get_joined}}
use Rattle.t1_font.specs.{Cut.{stub}, FontValue.{FontValue, Shell, Encoding, Word, name_cmp, notdef, Codes, names_in}, Maps.{map_values, merged}, FontModel.{word_of}}
use Rattle.t1_text.specs.Entries.{last_entries}
use Rattle.t1_font.proofs.{MapLemmas.{get-map_values, entries-map_values}, CutEntries.{entries-merged}}
use Rattle.t1_algebra.specs.{Interpreter.{Interpreter, Names, same_bytes}, Keep.{sets_of, charstring, has, components_here, is_closed, is_needed, keep, called_by, kept}}
use Rattle.t1_algebra.specs.States.{named_at, is_stub, is_called, subr_state, state_of_entry, called_at, executed_at}
use Rattle.t1_algebra.specs.StateTables.{states_of, all_components, used_subrs, subr_part, name_part, name_meaning}
use Rattle.t1_algebra.specs.Conflicts.{Conflict, ShellDiffers, CodeDiffers, GlyphDiffers, LacksComponent, SubrDiffers, OverLimit, keys_of_both, agrees, codes_of_both, glyphs_of_both, code_clashes}
use Rattle.t1_algebra.specs.Conflicts.{wanted_by, used_by, is_within, shell_conflict, code_conflict, glyph_conflict, component_conflict, subr_conflict, states_conflict, conflict, states_conflicts}
use Rattle.t1_algebra.specs.{Conflicts.{conflicts}, Searches.{members, found, passing, or_else}, Shared.{ShellPart, Head, EncodingPart, Private, SubrsTable, same_word, shared_of, differing_parts}}
use Rattle.t1_algebra.proofs.{Sets.{name_same, all_at, all_from, any_one, any_at, in_list, from_in_list, any_flat_map, cases}, FontStates.{get-used}, Searching.{passes_none}, Tables.{get-numbered}}
use Rattle.std.specs.FinMap as maps
use Rattle.std.specs.FinSet as sets
use Rattle.std.specs.List as lists

-- ---- sets of lists

module _ {K : Type 0} {R : K → K → Ordering} (o : IsTotalOrder R) (same : IsAntisymmetric R) where
  -- the key is in the list
  abbrev pub among : List K → K → Bool
  among l q = list_any (eq_by_cmp R q) l

  -- the items of the set of a list are the keys of the list
  same_items : (l : List K) (q : K) → among (sets.items (sets.from_list {R = R} l)) q ≡ among l q
  same_items l q = sym (sets.contains-items (sets.from_list l) q) ∙ sets.contains-from_list o l q

  all_items : (p : K → Bool) (l : List K) → list_all p (sets.items (sets.from_list {R = R} l)) ≡ list_all p l
  all_items p l = both_ways _ _ (λ w. all_from o same p l (λ q k. all_at o same p q (sets.items (sets.from_list l)) w (same_items l q ∙ k)))
      (λ w. all_from o same p (sets.items (sets.from_list l)) (λ q k. all_at o same p q l w (sym (same_items l q) ∙ k)))

  pub any_items : (p : K → Bool) (l : List K) → list_any p (sets.items (sets.from_list {R = R} l)) ≡ list_any p l
  any_items p l = both_ways _ _
      (λ w. let r = any_one o same p (sets.items (sets.from_list l)) w in any_at o same p r.0 l (sym (same_items l r.0) ∙ r.1) r.2)
      (λ w. let r = any_one o same p l w in any_at o same p r.0 (sets.items (sets.from_list l)) (same_items l r.0 ∙ r.1) r.2)

  subset_listed : (l : List K) (t : FinSet R) → sets.is_subset (sets.from_list l) t ≡ list_all (sets.contains t) l
  subset_listed l t = both_ways _ _
      (λ w. all_from o same (sets.contains t) l (λ q k. sets.is_subset-contains o (sets.from_list l) t w q (from_in_list o same l q k)))
      (λ w. sets.contains-is_subset o (sets.from_list l) t (λ q k. all_at o same (sets.contains t) q l w (in_list o same l q k)))

  -- the set of one list is within that of another if each of its keys is in the other
  subset_of_lists : (l k : List K) → sets.is_subset (sets.from_list {R = R} l) (sets.from_list k) ≡ list_all (among k) l
  subset_of_lists l k = subset_listed l (sets.from_list k) ∙ (λ i. list_all (λ q. sets.contains-from_list o k q i) l)

-- the name is in the list
abbrev named : List (List ℕ) → List ℕ → Bool
named l n = list_any (eq_by_cmp name_cmp n) l

-- each list of some of the names
abbrev lists_of : List (List ℕ) → List (List (List ℕ))
lists_of [] = [] ∷ []
lists_of (n ∷ ns) = lists_of ns ++ map (λ l. n ∷ l) (lists_of ns)

all_sets : (p : Names → Bool) (ns : List (List ℕ)) → list_all p (sets_of ns) ≡ list_all (λ l. p (sets.from_list l)) (lists_of ns)
all_sets p [] = refl
all_sets p (n ∷ ns) =
    list_all-append p (sets_of ns) (map (λ s. sets.insert s n) (sets_of ns))
    ∙ ap (λ b. list_all p (sets_of ns) && b) (list_all-map p (λ s. sets.insert s n) (sets_of ns))
    ∙ (λ i. all_sets p ns i && all_sets (λ s. p (sets.insert s n)) ns i)
    ∙ ap (λ b. list_all (λ l. p (sets.from_list l)) (lists_of ns) && b) (sym (list_all-map (λ l. p (sets.from_list l)) (λ l. n ∷ l) (lists_of ns)))
    ∙ sym (list_all-append (λ l. p (sets.from_list l)) (lists_of ns) (map (λ l. n ∷ l) (lists_of ns)))

-- ---- small fonts, and an interpreter of charstrings whose bytes are indices and components

-- the bytes of a charstring, each as a name of one letter
abbrev pub letters : List ℕ → List (List ℕ)
letters c = map (λ b. b ∷ []) c

-- each byte of a charstring is an index that it executes and a component with this one letter for its name
abbrev pub spelled : Interpreter (List ℕ)
spelled = record { direct = λ s c. c; exec = λ s c. sets.from_list c; names = letters; local = λ s t c h. (refl, refl) }

-- a shell with this head and lenIV and nothing else
abbrev pub shell_of : List ℕ → ℕ → Shell
shell_of head len_iv =
    record { head = head; clear_tail = []; private = []; middle = []; tail = []; len_iv = len_iv; subrs = None; glyphs_rd = []; glyphs_def = [] }

-- the font of this Encoding, these Subrs and these glyphs
abbrev pub font_of : Encoding → List (ℕ × List ℕ) → List (List ℕ × List ℕ) → FontValue
font_of e ss es = record { shell = shell_of [] 4; encoding = e; subrs = maps.from_sorted ss; glyphs = maps.from_sorted es }

-- what a list of entries has at a name
abbrev pub at_name : List (List ℕ × List ℕ) → List ℕ → Option (List ℕ)
at_name es n = find name_cmp n es

module _ (e : Encoding) (ss : List (ℕ × List ℕ)) (es : List (List ℕ × List ℕ)) (h : T (is_sorted name_cmp es)) where
  -- a font of a list has the charstrings of the list
  pub glyph_listed : (n : List ℕ) → maps.get (font_of e ss es).glyphs n ≡ at_name es n
  glyph_listed n = maps.get-from_sorted name_cmp es n h

  -- a font of a list has the names of the list
  pub has_listed : (n : List ℕ) → has (font_of e ss es) n ≡ is_some (at_name es n)
  has_listed n = ap is_some (glyph_listed n)

  charstring_listed : (n : List ℕ) → charstring (font_of e ss es) n ≡ unwrap_or (at_name es n) []
  charstring_listed n = ap (λ x. unwrap_or x []) (glyph_listed n)

  names_listed : maps.keys (font_of e ss es).glyphs ≡ map (λ e. e.0) es
  names_listed = ap (map (λ e. e.0)) (maps.entries-from_sorted name_cmp es h)

  -- those components of a glyph that are names of the list
  abbrev components_listed : List ℕ → List (List ℕ)
  components_listed n = filter (λ p. is_some (at_name es p)) (letters (unwrap_or (at_name es n) []))

  components_are : (l : List (List ℕ)) (n : List ℕ) →
      sets.is_subset (components_here spelled (font_of e ss es) n) (sets.from_list l) ≡ list_all (named l) (components_listed n)
  components_are l n = subset_of_lists nat_list_cmp_total name_same (filter (has (font_of e ss es)) (letters (charstring (font_of e ss es) n))) l
      ∙ (λ i. list_all (named l) (filter (λ p. has_listed p i) (letters (charstring_listed n i))))

  abbrev closed_listed : List (List ℕ) → List (List ℕ) → Bool
  closed_listed a l = named l notdef && (list_all (named l) a && list_all (λ n. list_all (named l) (components_listed n)) l)

  closed_is : (a l : List (List ℕ)) → is_closed spelled (font_of e ss es) (sets.from_list a) (sets.from_list l) ≡ closed_listed a l
  closed_is a l =
      (λ i. sets.contains-from_list nat_list_cmp_total l notdef i && (subset_of_lists nat_list_cmp_total name_same a l i
      && all_items nat_list_cmp_total name_same (λ n. sets.is_subset (components_here spelled (font_of e ss es) n) (sets.from_list l)) l i))
      ∙ (λ i. named l notdef && (list_all (named l) a && list_all (λ n. components_are l n i) l))

  abbrev needed_listed : List (List ℕ) → List ℕ → Bool
  needed_listed a n = list_all (λ l. not (closed_listed a l) || named l n) (lists_of (map (λ e. e.0) es))

  needed_is : (a : List (List ℕ)) (n : List ℕ) → is_needed spelled (font_of e ss es) (sets.from_list a) n ≡ needed_listed a n
  needed_is a n = all_sets (λ s. not (is_closed spelled (font_of e ss es) (sets.from_list a) s) || sets.contains s n) (maps.keys (font_of e ss es).glyphs)
      ∙ (λ i. list_all (λ l. not (closed_is a l i) || sets.contains-from_list nat_list_cmp_total l n i) (lists_of (names_listed i)))

  -- what is kept, over lists
  keep_listed : (a : List (List ℕ)) → keep spelled (font_of e ss es) (sets.from_list a) ≡ sets.from_list (filter (needed_listed a) (map (λ e. e.0) es))
  keep_listed a = λ i. sets.from_list (filter (λ n. needed_is a n i) (names_listed i))

  abbrev calls_listed : List (List ℕ) → List ℕ
  calls_listed l = 0 ∷ 1 ∷ 2 ∷ 3 ∷ flat_map (λ n. unwrap_or (at_name es n) []) l

  -- what these names execute, over lists
  called_listed : (l : List (List ℕ)) → called_by spelled (font_of e ss es) (sets.from_list l) ≡ sets.from_list (calls_listed l)
  called_listed l = sets.same_set nat_cmp_total nat_cmp-IsAntisymmetric _ _ (λ i.
      let at : List ℕ → List ℕ = λ n. sets.items (sets.from_list {R = nat_cmp} (charstring (font_of e ss es) n)) in
      let items : List (List ℕ) = sets.items (sets.from_list {R = name_cmp} l) in
      sets.contains-from_list nat_cmp_total (0 ∷ 1 ∷ 2 ∷ 3 ∷ flat_map at items) i
      ∙ ap (λ b. eq_by_cmp nat_cmp i 0 || (eq_by_cmp nat_cmp i 1 || (eq_by_cmp nat_cmp i 2 || (eq_by_cmp nat_cmp i 3 || b))))
      (any_flat_map (eq_by_cmp nat_cmp i) at items
      ∙ (any_items nat_list_cmp_total name_same (λ n. list_any (eq_by_cmp nat_cmp i) (at n)) l
      ∙ ((λ d. list_any (λ n. (any_items nat_cmp_total nat_cmp-IsAntisymmetric (eq_by_cmp nat_cmp i) (charstring (font_of e ss es) n)
      ∙ ap (list_any (eq_by_cmp nat_cmp i)) (charstring_listed n)) d) l)
      ∙ sym (any_flat_map (eq_by_cmp nat_cmp i) (λ n. unwrap_or (at_name es n) []) l))))
      ∙ sym (sets.contains-from_list nat_cmp_total (calls_listed l) i))

-- ---- rows

-- V is made of A and of Z, which the font lacks; A and B execute one Subr each
abbrev pub glyphs : List (List ℕ × List ℕ)
glyphs = (notdef, []) ∷ (codes "A", 5 ∷ []) ∷ (codes "B", 7 ∷ []) ∷ (codes "V", codes "AZ") ∷ []

abbrev pub subrs : List (ℕ × List ℕ)
subrs = (0, stub) ∷ (5, 12 ∷ []) ∷ (7, stub) ∷ (8, stub) ∷ []

abbrev pub small : FontValue
small = font_of (Word (codes "StandardEncoding")) subrs glyphs

keeps : (a : List (List ℕ)) →
    keep spelled small (sets.from_list a) ≡ sets.from_list (filter (needed_listed (Word (codes "StandardEncoding")) subrs glyphs tt a) (map (λ e. e.0) glyphs))
keeps a = keep_listed (Word (codes "StandardEncoding")) subrs glyphs tt a

calls : (l : List (List ℕ)) → called_by spelled small (sets.from_list l) ≡ sets.from_list (calls_listed (Word (codes "StandardEncoding")) subrs glyphs tt l)
calls l = called_listed (Word (codes "StandardEncoding")) subrs glyphs tt l

-- no name is asked for
keep_none : keep spelled small (sets.from_list []) ≡ sets.from_list (notdef ∷ [])
keep_none = keeps [] ∙ refl

-- a component of a glyph that is asked for is kept
keep_V : keep spelled small (sets.from_list (codes "V" ∷ [])) ≡ sets.from_list (notdef ∷ codes "A" ∷ codes "V" ∷ [])
keep_V = keeps (codes "V" ∷ []) ∙ refl

-- a component is kept without the glyph that it is a component of
keep_A_and_B : keep spelled small (sets.from_list (codes "B" ∷ codes "A" ∷ [])) ≡ sets.from_list (notdef ∷ codes "A" ∷ codes "B" ∷ [])
keep_A_and_B = keeps (codes "B" ∷ codes "A" ∷ []) ∙ refl

-- a name that the font lacks is not kept, and all others are, since no closed set has that name
keep_Q : keep spelled small (sets.from_list (codes "Q" ∷ [])) ≡ sets.from_list (notdef ∷ codes "A" ∷ codes "B" ∷ codes "V" ∷ [])
keep_Q = keeps (codes "Q" ∷ []) ∙ refl

kept_none : kept spelled small (sets.from_list []) ≡ sets.from_list (0 ∷ 1 ∷ 2 ∷ 3 ∷ [])
kept_none = ap (called_by spelled small) keep_none ∙ (calls (notdef ∷ []) ∙ refl)

-- what V and its component A execute
kept_V : kept spelled small (sets.from_list (codes "V" ∷ [])) ≡ sets.from_list (0 ∷ 1 ∷ 2 ∷ 3 ∷ 5 ∷ 65 ∷ 90 ∷ [])
kept_V = ap (called_by spelled small) keep_V ∙ (calls (notdef ∷ codes "A" ∷ codes "V" ∷ []) ∙ refl)

-- a charstring that is there executes the index
abbrev runs_at : ℕ → Option (List ℕ) → Bool
runs_at i None = false
runs_at i (Some c) = list_any (eq_by_cmp nat_cmp i) c

runs_is : (j : FontValue) (i : ℕ) (x : Option (List ℕ)) → executed_at spelled j i x ≡ runs_at i x
runs_is j i x = grind (cases, sets.contains-from_list nat_cmp_total)

-- an entry, or the bottom if it is a stub that is not called
abbrev state_by : Bool → Option (List ℕ) → Option (List ℕ)
state_by called None = None
state_by called (Some c) = cond (is_stub c && not called) None (Some c)

by_call : (j : FontValue) (i : ℕ) (x : Option (List ℕ)) → state_of_entry spelled j i x ≡ state_by (is_called spelled j i) x
by_call j i x = grind cases

module _ (e : Encoding) (ss : List (ℕ × List ℕ)) (es : List (List ℕ × List ℕ)) (hs : T (is_sorted nat_cmp ss)) (h : T (is_sorted name_cmp es)) where
  -- some charstring of the list has the byte
  abbrev executed_listed : ℕ → Bool
  executed_listed i = list_any (λ n. runs_at i (at_name es n)) (map (λ e. e.0) es)

  executed_is : (i : ℕ) → is_called spelled (font_of e ss es) i ≡ executed_listed i
  executed_is i = (λ d. list_any (λ n. runs_is (font_of e ss es) i (maps.get (font_of e ss es).glyphs n) d) (names_in (font_of e ss es).glyphs))
      ∙ (λ d. list_any (λ n. runs_at i (glyph_listed e ss es h n d)) (map (λ e. e.0) (maps.entries-from_sorted name_cmp es h d)))

  state_is : (i : ℕ) → subr_state spelled (font_of e ss es) i ≡ state_by (executed_listed i) (find nat_cmp i ss)
  state_is i = by_call (font_of e ss es) i (maps.get (font_of e ss es).subrs i) ∙ (λ d. state_by (executed_is i d) (maps.get-from_sorted nat_cmp ss i hs d))

  -- the state of an index in the table of all states
  subr_listed : (i : ℕ) → maps.get (subr_part (states_of spelled (font_of e ss es))) (of_number i) ≡ state_by (executed_listed i) (find nat_cmp i ss)
  subr_listed i = get-numbered (used_subrs spelled (font_of e ss es)) (of_number i) ∙ get-used spelled (font_of e ss es) i ∙ state_is i

  abbrev sought_listed : List (List ℕ)
  sought_listed = flat_map (λ n. named_at spelled (font_of e ss es) (at_name es n)) (map (λ e. e.0) es)

  sought_are : all_components spelled (font_of e ss es) ≡ sought_listed
  sought_are = λ d. flat_map (λ n. named_at spelled (font_of e ss es) (glyph_listed e ss es h n d)) (map (λ e. e.0) (maps.entries-from_sorted name_cmp es h d))

  -- the state of a name
  name_listed : (n : List ℕ) → maps.get (name_part (states_of spelled (font_of e ss es))) n
      ≡ joined_state (option_map (λ c. name_meaning (Some c)) (at_name es n)) (find name_cmp n (map (λ p. (p, name_meaning None)) sought_listed))
  name_listed n =
      get_joined (map_values (λ n c. name_meaning (Some c)) (font_of e ss es).glyphs)
      (maps.from_entries (map (λ p. (p, name_meaning None)) (all_components spelled (font_of e ss es)))) n
      ∙ (λ d. joined_state (get-map_values nat_list_cmp_total name_same (λ n c. name_meaning (Some c)) (font_of e ss es).glyphs n d)
      (maps.get-from_entries nat_list_cmp_total (map (λ p. (p, name_meaning None)) (all_components spelled (font_of e ss es))) n d))
      ∙ (λ d. joined_state (option_map (λ c. name_meaning (Some c)) (glyph_listed e ss es h n d))
      (find name_cmp n (map (λ p. (p, name_meaning None)) (sought_are d))))

-- ---- rows of states

abbrev standard : Encoding
standard = Word (codes "StandardEncoding")

-- a `return` that no glyph executes is the bottom
state_0 : maps.get (subr_part (states_of spelled small)) (of_number 0) ≡ None
state_0 = subr_listed standard subrs glyphs tt tt 0 ∙ refl

state_5 : maps.get (subr_part (states_of spelled small)) (of_number 5) ≡ Some (12 ∷ [])
state_5 = subr_listed standard subrs glyphs tt tt 5 ∙ refl

-- a `return` that B executes is a state
state_7 : maps.get (subr_part (states_of spelled small)) (of_number 7) ≡ Some stub
state_7 = subr_listed standard subrs glyphs tt tt 7 ∙ refl

state_6 : maps.get (subr_part (states_of spelled small)) (of_number 6) ≡ None
state_6 = subr_listed standard subrs glyphs tt tt 6 ∙ refl

state_A : maps.get (name_part (states_of spelled small)) (codes "A") ≡ Some (name_meaning (Some (5 ∷ [])))
state_A = name_listed standard subrs glyphs tt tt (codes "A") ∙ refl

-- Z is sought by V
state_Z : maps.get (name_part (states_of spelled small)) (codes "Z") ≡ Some (name_meaning None)
state_Z = name_listed standard subrs glyphs tt tt (codes "Z") ∙ refl

state_Q : maps.get (name_part (states_of spelled small)) (codes "Q") ≡ None
state_Q = name_listed standard subrs glyphs tt tt (codes "Q") ∙ refl

-- ---- conflicts of two fonts of one shell

-- if no element passes, there are none that do
none_passing : {X : Type 0} (p : X → Bool) (xs : List X) → ((x : X) → p x ≡ false) → filter p xs ≡ []
none_passing p [] h = refl
none_passing p (x ∷ xs) h = ap (λ b. cond b (x ∷ filter p xs) (filter p xs)) (h x) ∙ none_passing p xs h

-- the keys of either map, over lists
abbrev keys_listed : {K : Type 0} → (K → K → Ordering) → List (K × List ℕ) → List (K × List ℕ) → List K
keys_listed {K = K} R es fs = map (λ (e : K × ℕ). e.0) (map (λ (e : K × List ℕ). (e.0, 0)) (last_entries R (fs ++ es)))

keys_are : {K : Type 0} {R : K → K → Ordering} (o : IsTotalOrder R) (same : IsAntisymmetric R) (es fs : List (K × List ℕ)) →
    T (is_sorted R es) → T (is_sorted R fs)
    → members (keys_of_both {R = R} (maps.from_sorted es) (maps.from_sorted fs)) ≡ keys_listed R es fs
keys_are {R = R} o same es fs he hf = ap (map (λ e. e.0))
    (entries-map_values o same (λ k v. 0) (merged (maps.from_sorted es) (maps.from_sorted fs))
    ∙ ap (map (λ e. (e.0, 0))) (entries-merged o same (maps.from_sorted es) (maps.from_sorted fs)
    ∙ (λ d. last_entries R (maps.entries-from_sorted R fs hf d ++ maps.entries-from_sorted R es he d))))

module _ (e k : Encoding) (ss ts : List (ℕ × List ℕ)) (es fs : List (List ℕ × List ℕ)) (hs : T (is_sorted nat_cmp ss))
    (ht : T (is_sorted nat_cmp ts)) (he : T (is_sorted name_cmp es)) (hf : T (is_sorted name_cmp fs)) where
  abbrev f : FontValue
  f = font_of e ss es

  abbrev g : FontValue
  g = font_of k ts fs

  abbrev names : List (List ℕ)
  names = keys_listed name_cmp es fs

  names_are : members (glyphs_of_both f g) ≡ names
  names_are = keys_are nat_list_cmp_total name_same es fs he hf

  -- both lists have the same indices
  abbrev same_listed : Bool
  same_listed = same_bytes (map (λ e. e.0) ss) (map (λ e. e.0) ts)

  present_are : same_bytes (maps.keys f.subrs) (maps.keys g.subrs) ≡ same_listed
  present_are = λ d. same_bytes (map (λ e. e.0) (maps.entries-from_sorted nat_cmp ss hs d)) (map (λ e. e.0) (maps.entries-from_sorted nat_cmp ts ht d))

  abbrev glyph_differs : List ℕ → Bool
  glyph_differs n = not (agrees (at_name es n) (at_name fs n))

  glyphs_are : glyph_conflict f g ≡ lists.find glyph_differs names
  glyphs_are = λ d. lists.find (λ n. not (agrees (glyph_listed e ss es he n d) (glyph_listed k ts fs hf n d))) (names_are d)

  -- a glyph that is there calls for a component that its list lacks
  abbrev wanted_listed : List ℕ → List ℕ → Bool
  wanted_listed p n =
      (not (is_some (at_name es p)) && called_at spelled f p (at_name es n)) || (not (is_some (at_name fs p)) && called_at spelled g p (at_name fs n))

  wanted_are : (p n : List ℕ) → wanted_by spelled f g p n ≡ wanted_listed p n
  wanted_are p n = λ d. (not (has_listed e ss es he p d) && called_at spelled f p (glyph_listed e ss es he n d))
      || (not (has_listed k ts fs hf p d) && called_at spelled g p (glyph_listed k ts fs hf n d))

  abbrev lacking_listed : List ℕ → Bool
  lacking_listed p = (is_some (at_name es p) || is_some (at_name fs p)) && list_any (wanted_listed p) names

  lacking_are : component_conflict spelled f g ≡ lists.find lacking_listed names
  lacking_are = λ d. lists.find (λ p. (has_listed e ss es he p d || has_listed k ts fs hf p d) && list_any (λ n. wanted_are p n d) (names_are d)) (names_are d)

  abbrev subr_differs : ℕ → Bool
  subr_differs i =
      not (agrees (state_by (executed_listed e ss es hs he i) (find nat_cmp i ss)) (state_by (executed_listed k ts fs ht hf i) (find nat_cmp i ts)))

  subrs_differ : subr_conflict spelled f g ≡ lists.find subr_differs (keys_listed nat_cmp ss ts)
  subrs_differ = λ d. lists.find (λ i. not (agrees (state_is e ss es hs he i d) (state_is k ts fs ht hf i d)))
      (keys_are nat_cmp_total nat_cmp-IsAntisymmetric ss ts hs ht d)

  abbrev used_listed : ℕ → List ℕ → Bool
  used_listed i n = runs_at i (at_name es n) || runs_at i (at_name fs n)

  used_are : (i : ℕ) (n : List ℕ) → used_by spelled f g i n ≡ used_listed i n
  used_are i n = (λ d. runs_is f i (maps.get f.glyphs n) d || runs_is g i (maps.get g.glyphs n) d)
      ∙ (λ d. runs_at i (glyph_listed e ss es he n d) || runs_at i (glyph_listed k ts fs hf n d))

  -- the lowest conflict, over lists, after the shells and codes
  abbrev listed : Option ShellPart → Option ℕ → Option Conflict
  listed part code =
      found ShellDiffers part
      (found CodeDiffers code
      (found GlyphDiffers (lists.find glyph_differs names)
      (found (λ p. LacksComponent (unwrap_or (lists.find (wanted_listed p) names) []) p) (lists.find lacking_listed names)
      (found (λ i. SubrDiffers i (lists.find (used_listed i) names)) (lists.find subr_differs (keys_listed nat_cmp ss ts)) None))))

  conflicts_are : (part : Option ShellPart) (code : Option ℕ) → shell_conflict f g ≡ part → code_conflict f g ≡ code →
      states_conflict spelled f g ≡ listed part code
  conflicts_are part code s c = λ d.
      found ShellDiffers (s d)
      (found CodeDiffers (c d)
      (found GlyphDiffers (glyphs_are d)
      (found (λ p. LacksComponent (unwrap_or (lists.find (λ n. wanted_are p n d) (names_are d)) []) p) (lacking_are d)
      (found (λ i. SubrDiffers i (lists.find (λ n. used_are i n d) (names_are d))) (subrs_differ d) None))))

  -- all conflicts, over lists, after those of the shells and codes
  abbrev all_listed : List ShellPart → List ℕ → List Conflict
  all_listed parts codes =
      map ShellDiffers parts
      ++ (map CodeDiffers codes
      ++ (map GlyphDiffers (filter glyph_differs names)
      ++ (map (λ p. LacksComponent (unwrap_or (lists.find (wanted_listed p) names) []) p) (filter lacking_listed names)
      ++ map (λ i. SubrDiffers i (lists.find (used_listed i) names)) (filter subr_differs (keys_listed nat_cmp ss ts)))))

  all_are : (parts : List ShellPart) (codes : List ℕ) → differing_parts (shared_of f) (shared_of g) ≡ parts →
      passing (code_clashes f g) (codes_of_both e k) ≡ codes → states_conflicts spelled f g ≡ all_listed parts codes
  all_are parts codes s c = λ d.
      map ShellDiffers (s d)
      ++ (map CodeDiffers (c d)
      ++ (map GlyphDiffers (filter (λ n. not (agrees (glyph_listed e ss es he n d) (glyph_listed k ts fs hf n d))) (names_are d))
      ++ (map (λ p. LacksComponent (unwrap_or (lists.find (λ n. wanted_are p n d) (names_are d)) []) p)
      (filter (λ p. (has_listed e ss es he p d || has_listed k ts fs hf p d) && list_any (λ n. wanted_are p n d) (names_are d)) (names_are d))
      ++ map (λ i. SubrDiffers i (lists.find (λ n. used_are i n d) (names_are d)))
      (filter (λ i. not (agrees (state_is e ss es hs he i d) (state_is k ts fs ht hf i d))) (keys_are nat_cmp_total nat_cmp-IsAntisymmetric ss ts hs ht d)))))

  -- fonts with Encodings of one kind differ in no part of their shells but in which indices are present
  parts_are : same_word (word_of e) (word_of k) ≡ true → (b : Bool) → same_listed ≡ b →
      differing_parts (shared_of f) (shared_of g) ≡ cond (not b) (SubrsTable ∷ []) []
  parts_are kinds b present = λ d. cond (not (kinds d)) (EncodingPart ∷ cond (not ((present_are ∙ present) d)) (SubrsTable ∷ []) [])
      (cond (not ((present_are ∙ present) d)) (SubrsTable ∷ []) [])

  -- fonts with Encodings of one kind and with the same indices have no conflict of shells
  shells_same : same_word (word_of e) (word_of k) ≡ true → same_listed ≡ true → shell_conflict f g ≡ None
  shells_same kinds present = λ d. cond (not (kinds d)) (Some EncodingPart) (cond (not ((present_are ∙ present) d)) (Some SubrsTable) None)

-- two fonts with the same word as Encoding, each with its lists of Subrs and glyphs
module _ (ss ts : List (ℕ × List ℕ)) (es fs : List (List ℕ × List ℕ)) (hs : T (is_sorted nat_cmp ss))
    (ht : T (is_sorted nat_cmp ts)) (he : T (is_sorted name_cmp es)) (hf : T (is_sorted name_cmp fs)) where
  in_both : same_bytes (map (λ e. e.0) ss) (map (λ e. e.0) ts) ≡ true →
      states_conflict spelled (font_of standard ss es) (font_of standard ts fs) ≡ listed standard standard ss ts es fs hs ht he hf None None
  in_both present = conflicts_are standard standard ss ts es fs hs ht he hf None None (shells_same standard standard ss ts es fs hs ht he hf refl present)
      (passes_none (code_clashes (font_of standard ss es) (font_of standard ts fs)) (members (codes_of_both standard standard)) (λ c. refl))

  -- all conflicts of the two
  all_in_both : (b : Bool) → same_bytes (map (λ e. e.0) ss) (map (λ e. e.0) ts) ≡ b →
      states_conflicts spelled (font_of standard ss es) (font_of standard ts fs)
      ≡ all_listed standard standard ss ts es fs hs ht he hf (cond (not b) (SubrsTable ∷ []) []) []
  all_in_both b present = all_are standard standard ss ts es fs hs ht he hf (cond (not b) (SubrsTable ∷ []) []) []
      (parts_are standard standard ss ts es fs hs ht he hf refl b present)
      (none_passing (code_clashes (font_of standard ss es) (font_of standard ts fs)) (members (codes_of_both standard standard)) (λ c. refl))

-- ---- rows of conflicts

-- a font with another shell, whose conflict is told before any table is looked at
abbrev with_shell : Shell → FontValue
with_shell s = record { shell = s; encoding = small.encoding; subrs = small.subrs; glyphs = small.glyphs }

head_differs : conflict spelled small (with_shell (shell_of (37 ∷ []) 0)) ≡ Some (ShellDiffers Head)
head_differs = refl

kind_differs : conflict spelled small (font_of (Codes (maps.from_sorted [])) subrs glyphs) ≡ Some (ShellDiffers EncodingPart)
kind_differs = refl

lead_bytes_differ : conflict spelled small (with_shell (shell_of [] 0)) ≡ Some (ShellDiffers Private)
lead_bytes_differ = refl

-- the lowest conflict of states, if there is one, is the lowest of the fonts
lowest : (f g : FontValue) (c : Conflict) → states_conflict spelled f g ≡ Some c → conflict spelled f g ≡ Some c
lowest f g c s = ap (λ x. found (λ c. c) x (cond (is_within spelled f g) None (Some OverLimit))) s

index_lacks : states_conflict spelled (font_of standard ((0, stub) ∷ []) ((notdef, []) ∷ [])) (font_of standard [] ((notdef, []) ∷ []))
    ≡ Some (ShellDiffers SubrsTable)
index_lacks = conflicts_are standard standard ((0, stub) ∷ []) [] ((notdef, []) ∷ []) ((notdef, []) ∷ []) tt tt tt tt (Some SubrsTable) None
    (λ d. cond (not (present_are standard standard ((0, stub) ∷ []) [] ((notdef, []) ∷ []) ((notdef, []) ∷ []) tt tt tt tt d)) (Some SubrsTable) None)
    (passes_none (code_clashes (font_of standard ((0, stub) ∷ []) ((notdef, []) ∷ [])) (font_of standard [] ((notdef, []) ∷ [])))
    (members (codes_of_both standard standard)) (λ c. refl))
    ∙ refl

-- V without its component A, as a cut of another font may have it
abbrev V_alone : List (List ℕ × List ℕ)
V_alone = (notdef, []) ∷ (codes "V", codes "AZ") ∷ []

abbrev A_and_B : List (List ℕ × List ℕ)
A_and_B = (notdef, []) ∷ (codes "A", 5 ∷ []) ∷ (codes "B", 7 ∷ []) ∷ []

abbrev other_B : List (List ℕ × List ℕ)
other_B = (notdef, []) ∷ (codes "A", 5 ∷ []) ∷ (codes "B", 8 ∷ []) ∷ []

B_differs : conflict spelled (font_of standard subrs A_and_B) (font_of standard subrs other_B) ≡ Some (GlyphDiffers (codes "B"))
B_differs = lowest (font_of standard subrs A_and_B) (font_of standard subrs other_B)
    (GlyphDiffers (codes "B")) (in_both subrs subrs A_and_B other_B tt tt tt tt refl ∙ refl)

V_lacks_A : conflict spelled (font_of standard subrs V_alone) (font_of standard subrs A_and_B) ≡ Some (LacksComponent (codes "V") (codes "A"))
V_lacks_A = lowest (font_of standard subrs V_alone) (font_of standard subrs A_and_B)
    (LacksComponent (codes "V") (codes "A")) (in_both subrs subrs V_alone A_and_B tt tt tt tt refl ∙ refl)

-- another charstring at index 5, which A executes
abbrev other_5 : List (ℕ × List ℕ)
other_5 = (0, stub) ∷ (5, 13 ∷ []) ∷ (7, stub) ∷ (8, stub) ∷ []

five_differs : conflict spelled small (font_of standard other_5 A_and_B) ≡ Some (SubrDiffers 5 (Some (codes "A")))
five_differs = lowest small (font_of standard other_5 A_and_B) (SubrDiffers 5 (Some (codes "A"))) (in_both subrs other_5 glyphs A_and_B tt tt tt tt refl ∙ refl)

abbrev two_at_0 : List (ℕ × List ℕ)
two_at_0 = (0, 12 ∷ []) ∷ (5, 12 ∷ []) ∷ (7, stub) ∷ (8, stub) ∷ []

abbrev other_at_0 : List (ℕ × List ℕ)
other_at_0 = (0, 13 ∷ []) ∷ (5, 12 ∷ []) ∷ (7, stub) ∷ (8, stub) ∷ []

no_user_of_0 : conflict spelled (font_of standard two_at_0 glyphs) (font_of standard other_at_0 A_and_B) ≡ Some (SubrDiffers 0 None)
no_user_of_0 = lowest (font_of standard two_at_0 glyphs) (font_of standard other_at_0 A_and_B)
    (SubrDiffers 0 None) (in_both two_at_0 other_at_0 glyphs A_and_B tt tt tt tt refl ∙ refl)

-- a stub that no glyph of its font executes gives way: 7 in one font and 5 in the other
abbrev cut_to_A : List (ℕ × List ℕ)
cut_to_A = (0, stub) ∷ (5, 12 ∷ []) ∷ (7, stub) ∷ []

abbrev cut_to_B : List (ℕ × List ℕ)
cut_to_B = (0, stub) ∷ (5, stub) ∷ (7, 15 ∷ []) ∷ []

abbrev A_alone : List (List ℕ × List ℕ)
A_alone = (notdef, []) ∷ (codes "A", 5 ∷ []) ∷ []

abbrev B_alone : List (List ℕ × List ℕ)
B_alone = (notdef, []) ∷ (codes "B", 7 ∷ []) ∷ []

cuts_agree : states_conflict spelled (font_of standard cut_to_A A_alone) (font_of standard cut_to_B B_alone) ≡ None
cuts_agree = in_both cut_to_A cut_to_B A_alone B_alone tt tt tt tt refl ∙ refl

-- a stub that is executed doesn't give way
stub_is_used : conflict spelled (font_of standard cut_to_A A_and_B) (font_of standard cut_to_B B_alone) ≡ Some (SubrDiffers 7 (Some (codes "B")))
stub_is_used = lowest (font_of standard cut_to_A A_and_B) (font_of standard cut_to_B B_alone)
    (SubrDiffers 7 (Some (codes "B"))) (in_both cut_to_A cut_to_B A_and_B B_alone tt tt tt tt refl ∙ refl)

-- two tables with different names at a code
abbrev table : List (ℕ × List ℕ) → Encoding
table cs = Codes (maps.from_sorted cs)

abbrev codes_of_A : List (ℕ × List ℕ)
codes_of_A = (65, codes "A") ∷ (66, codes "B") ∷ []

abbrev codes_of_V : List (ℕ × List ℕ)
codes_of_V = (64, codes "V") ∷ (66, codes "V") ∷ []

code_66_differs : conflict spelled (font_of (table codes_of_A) subrs glyphs) (font_of (table codes_of_V) subrs glyphs) ≡ Some (CodeDiffers 66)
code_66_differs = lowest (font_of (table codes_of_A) subrs glyphs) (font_of (table codes_of_V) subrs glyphs) (CodeDiffers 66)
    (conflicts_are (table codes_of_A) (table codes_of_V) subrs subrs glyphs glyphs tt tt tt tt None (Some 66)
    (shells_same (table codes_of_A) (table codes_of_V) subrs subrs glyphs glyphs tt tt tt tt refl refl)
    ((λ d. lists.find (λ c. not (agrees (maps.get-from_sorted nat_cmp codes_of_A c tt d) (maps.get-from_sorted nat_cmp codes_of_V c tt d)))
    (keys_are nat_cmp_total nat_cmp-IsAntisymmetric codes_of_A codes_of_V tt tt d)) ∙ refl)
    ∙ refl)

-- ---- rows of all conflicts

-- all conflicts of states, if there are some, are all of the fonts
all_of : (f g : FontValue) (c : Conflict) (cs : List Conflict) → states_conflicts spelled f g ≡ c ∷ cs → conflicts spelled f g ≡ c ∷ cs
all_of f g c cs s = ap (λ xs. or_else xs (cond (is_within spelled f g) [] (OverLimit ∷ []))) s

-- B differs, V lacks its component A, and Subr 5, which A executes, differs
abbrev B_and_V : List (List ℕ × List ℕ)
B_and_V = (notdef, []) ∷ (codes "B", 7 ∷ []) ∷ (codes "V", codes "AZ") ∷ []

three_kinds : conflicts spelled (font_of standard subrs B_and_V) (font_of standard other_5 other_B)
    ≡ GlyphDiffers (codes "B") ∷ LacksComponent (codes "V") (codes "A") ∷ SubrDiffers 5 (Some (codes "A")) ∷ []
three_kinds = all_of (font_of standard subrs B_and_V) (font_of standard other_5 other_B)
    (GlyphDiffers (codes "B")) (LacksComponent (codes "V") (codes "A") ∷ SubrDiffers 5 (Some (codes "A")) ∷ [])
    (all_in_both subrs other_5 B_and_V other_B tt tt tt tt true refl ∙ refl)

-- two glyphs and two Subrs of each font differ, and one of these Subrs has no user
abbrev six_and_two : List (List ℕ × List ℕ)
six_and_two = (notdef, []) ∷ (codes "A", 6 ∷ []) ∷ (codes "B", 2 ∷ []) ∷ []

abbrev other_at_both : List (ℕ × List ℕ)
other_at_both = (0, 13 ∷ []) ∷ (5, 13 ∷ []) ∷ (7, stub) ∷ (8, stub) ∷ []

two_of_each : conflicts spelled (font_of standard two_at_0 A_and_B) (font_of standard other_at_both six_and_two)
    ≡ GlyphDiffers (codes "A") ∷ GlyphDiffers (codes "B") ∷ SubrDiffers 0 None ∷ SubrDiffers 5 (Some (codes "A")) ∷ []
two_of_each = all_of (font_of standard two_at_0 A_and_B) (font_of standard other_at_both six_and_two)
    (GlyphDiffers (codes "A")) (GlyphDiffers (codes "B") ∷ SubrDiffers 0 None ∷ SubrDiffers 5 (Some (codes "A")) ∷ [])
    (all_in_both two_at_0 other_at_both A_and_B six_and_two tt tt tt tt true refl ∙ refl)

-- one font has a Subr that the other lacks, and a glyph differs
table_and_glyph : conflicts spelled (font_of standard cut_to_A A_and_B) (font_of standard subrs other_B)
    ≡ ShellDiffers SubrsTable ∷ GlyphDiffers (codes "B") ∷ []
table_and_glyph = all_of (font_of standard cut_to_A A_and_B) (font_of standard subrs other_B) (ShellDiffers SubrsTable) (GlyphDiffers (codes "B") ∷ [])
    (all_in_both cut_to_A subrs A_and_B other_B tt tt tt tt false refl ∙ refl)

cuts_have_none : states_conflicts spelled (font_of standard cut_to_A A_alone) (font_of standard cut_to_B B_alone) ≡ []
cuts_have_none = all_in_both cut_to_A cut_to_B A_alone B_alone tt tt tt tt true refl ∙ refl
