-- The lowest conflict of two fonts, as the code finds it in their states.
use Rattle.std.proofs.Common.{◌≡◌, ℕ, ◌≤◌, true, not, cond, List, refl, sym, ◌∙◌, ap, true≢false, Option, Some, None, is_some, arith, inl, inr, [], unwrap_or, MatchOption, ◌<◌, ◌||◌, nat_cmp, subst}
use Rattle.std.proofs.{Common.{option_map, Ordering}, lemmas.Bool.{false_from_ne_true}}
use Rattle.std.specs.{Cmp.{IsTotalOrder, nat_cmp_total, first_so}, FinSet.{IsAntisymmetric, nat_cmp-IsAntisymmetric}, List.{list_any}, Cmp.Lexicographic.{nat_list_cmp_total}}
use Rattle.t1_join.specs.{TableMeaning.{TableMeaning, TablesAgree, IsFirstConflict}, Meaning.{Meaning, of_number, by_number_law}, Join.{states_agree, joined_state}, TableLaws.{same_table}}
use Rattle.t1_font.specs.{FontValue.{FontValue, Encoding, Word, Codes, name_cmp}, FontModel.{name_at}, IsFont.{IsFont, IsEncoding}}
use Rattle.t1_font.specs.MadeTables.{numbered}
use Rattle.t1_algebra.specs.Conflicts.{agrees, clashes_at, codes_of_both, subr_clashes, ShellDiffers, CodeDiffers, GlyphDiffers, LacksComponent, SubrDiffers, keys_of_both, shell_conflict}
use Rattle.t1_algebra.specs.Conflicts.{code_conflict, glyph_conflict, component_conflict, subr_conflict, wanted_by, used_by, glyphs_of_both, code_clashes, glyph_clashes, component_clashes, Conflict}
use Rattle.t1_algebra.specs.{Conflicts.{OverLimit, states_conflict, conflict, is_within}, States.{code_state, subr_state}, Interpreter.{Interpreter}, Keep.{has}, Profile.{profile}}
use Rattle.t1_algebra.specs.StateTables.{StatesValue, name_part, code_states, name_states, used_subrs, states_of, behind_mark, names_table, name_meaning}
use Rattle.t1_algebra.specs.{Shared.{Shared, shared_of, differing_part, ShellPart}, Searches.{found, smallest, members, IsLowest}, NameStates.{is_sought_in, charstrings_differ, one_lacks}}
use Rattle.t1_algebra.proofs.{Maps.{in_both}, Searching.{first_passes}, Sets.{name_same, cases, cases_Option}, Tables.{Shows, codes_shown, meanings_as_bytes, get-name}}
use Rattle.t1_algebra.proofs.FontStates.{get-names, subrs_shown}
use Rattle.t1_subset.specs.{References.{seeker_of}, declared.conflict.Conflict.{Conflict as Refusal}, Refusals.{Tells}}
use Rattle.t1_subset.proofs.{state_tables.LowestKeys.{lowest_is}, state_tables.FontReferences.{any_first, sought_is, smallest_seeker}}
use Rattle.std.specs.FinMap as maps

-- a key whose values in two maps do not join is a key of both
pub clash_there : {K : Type 0} {R : K → K → Ordering} → IsTotalOrder R → IsAntisymmetric R → (a b : maps.FinMap R (List ℕ)) (k : K) → clashes_at a b k ≡ true →
    maps.contains_key (keys_of_both a b) k ≡ true
clash_there o same a b k h = grind (cases, in_both o same a b k)

-- ---- codes

-- the name of a code is its state
pub named_so : (e : Encoding) (c : ℕ) → name_at e c ≡ code_state e c
named_so (Word w) c = refl
named_so (Codes t) c = refl

-- a code in conflict is one of the codes of both tables
pub code_there : (d e : Encoding) (c : ℕ) → not (agrees (code_state d c) (code_state e c)) ≡ true → maps.contains_key (codes_of_both d e) c ≡ true
code_there (Word v) e c h = absurd (true≢false (sym h))
code_there (Codes s) (Word w) c h = grind cases
code_there (Codes s) (Codes t) c h = clash_there nat_cmp_total nat_cmp-IsAntisymmetric s t c h

-- a code from 256 on has no name
pub no_name : (e : Encoding) → IsEncoding e → (c : ℕ) → 256 ≤ c → code_state e c ≡ None
no_name (Word w) h c l = refl
no_name (Codes t) h c l = elim (cases_Option (maps.get t c)) [ inl none ↦ none | inr some ↦ absurd (let k = (h c some.0 some.1).code in omega arith) ]

-- ---- the smallest code and the smallest Subr

-- what a search of two tables for a conflict answers is the lowest number whose states are in conflict
lowest_clash : (s t : TableMeaning) (x y : ℕ → Option (List ℕ)) → Shows s x → Shows t y → (r : Option ℕ) →
    MatchOption r (TablesAgree s t) (λ k. IsFirstConflict s t (of_number k)) → IsLowest nat_cmp (λ i. not (agrees (x i) (y i))) r
lowest_clash s t x y shows also r h = subst (λ p. IsLowest nat_cmp p r) (λ j i. not (alike i j)) (lowest r h)
  where
    alike : (i : ℕ) → states_agree (maps.get s (of_number i)) (maps.get t (of_number i)) ≡ agrees (x i) (y i)
    alike i = grind (cases, shows (of_number i), also (of_number i), meanings_as_bytes)

    lowest : (r : Option ℕ) → MatchOption r (TablesAgree s t) (λ k. IsFirstConflict s t (of_number k)) →
        IsLowest nat_cmp (λ i. not (states_agree (maps.get s (of_number i)) (maps.get t (of_number i)))) r
    lowest None h = λ i. ap not (h (of_number i))
    lowest (Some k) h =
        record { it = ap not (false_from_ne_true _ h.differs); none_lower = λ i l. ap not (h.first (of_number i) (sym (by_number_law i k) ∙ l)) }

module _ (f g : FontValue) (s t : TableMeaning) (r : Option ℕ) (h : MatchOption r (TablesAgree s t) (λ k. IsFirstConflict s t (of_number k))) where
  -- what a search of two tables of codes answers is the conflict of codes
  pub code_found : s ≡ code_states f.encoding → t ≡ code_states g.encoding → r ≡ code_conflict f g
  code_found sf sg =
      lowest_is nat_cmp_total nat_cmp-IsAntisymmetric (code_clashes f g) (codes_of_both f.encoding g.encoding) (code_there f.encoding g.encoding) r
      (lowest_clash s t (code_state f.encoding) (code_state g.encoding) (subst (λ s. Shows s (code_state f.encoding)) (sym sf) (codes_shown f.encoding))
      (subst (λ t. Shows t (code_state g.encoding)) (sym sg) (codes_shown g.encoding)) r h)

  -- what a search of two tables of Subrs answers is the conflict of Subrs
  pub subr_found : s ≡ numbered (used_subrs profile f) → t ≡ numbered (used_subrs profile g) → r ≡ subr_conflict profile f g
  subr_found sf sg = lowest_is nat_cmp_total nat_cmp-IsAntisymmetric (subr_clashes profile f g)
      (keys_of_both f.subrs g.subrs) (λ i c. grind (cases, c, in_both nat_cmp_total nat_cmp-IsAntisymmetric f.subrs g.subrs i)) r
      (lowest_clash s t (subr_state profile f) (subr_state profile g) (subst (λ s. Shows s (subr_state profile f)) (sym sf) (subrs_shown profile f))
      (subst (λ t. Shows t (subr_state profile g)) (sym sg) (subrs_shown profile g)) r h)

module _ (f g : FontValue) where
  -- a code in conflict is below 256
  pub code_below : IsFont f → (c : ℕ) → Some c ≡ code_conflict f g → c < 256
  code_below h c e =
      let clashing = first_passes (code_clashes f g) (members (codes_of_both f.encoding g.encoding)) c (sym e) in
      grind (cases, clashing, no_name f.encoding h.encoding c)

  -- both fonts have an entry at an index in conflict
  pub subr_clashing : (i : ℕ) → Some i ≡ subr_conflict profile f g → (maps.contains_key f.subrs i ≡ true) × (maps.contains_key g.subrs i ≡ true)
  subr_clashing i is =
      let h = first_passes (subr_clashes profile f g) (members (keys_of_both f.subrs g.subrs)) i (sym is) in (grind (cases, h), grind (cases, h))

-- ---- the smallest glyph and the smallest component

module _ (f : FontValue) (v : StatesValue) (is : v ≡ states_of profile f) where
  -- the states of a font have the charstring of each glyph
  charstring_seen : (n : List ℕ) → behind_mark (maps.get (name_part v) n) ≡ maps.get f.glyphs n
  charstring_seen n = ap (λ (v : StatesValue). behind_mark (maps.get (name_part v) n)) is ∙ grind (cases, get-names profile f n)

  -- the states of a font seek what has a seeker
  seeking_seen : (n : List ℕ) → is_sought_in (maps.get (name_part v) n) ≡ is_some (seeker_of f n)
  seeking_seen n = ap (λ (v : StatesValue). is_sought_in (maps.get (name_part v) n)) is ∙ grind (cases, get-names profile f n, sought_is f n)

module _ (f g : FontValue) (v w : StatesValue) (a : v ≡ states_of profile f) (b : w ≡ states_of profile g) where
  -- the lowest name with two charstrings that differ is the conflict of glyphs
  pub glyph_found : (x : Option (List ℕ)) →
      IsLowest name_cmp (λ n. charstrings_differ (maps.get (name_part v) n) (maps.get (name_part w) n)) x → x ≡ glyph_conflict f g
  glyph_found x h =
      lowest_is nat_list_cmp_total name_same (glyph_clashes f g) (glyphs_of_both f g) (clash_there nat_list_cmp_total name_same f.glyphs g.glyphs) x
      (subst (λ p. IsLowest name_cmp p x) (λ i n. not (agrees (charstring_seen f v a n i) (charstring_seen g w b n i))) h)

  -- some glyph wants a component if the component has a seeker in one of the fonts
  wanted_so : (p : List ℕ) → list_any (wanted_by profile f g p) (members (glyphs_of_both f g)) ≡ (is_some (seeker_of f p) || is_some (seeker_of g p))
  wanted_so p = any_first (wanted_by profile f g p) (members (glyphs_of_both f g)) ∙ ap is_some (sym (smallest_seeker f g p)) ∙ grind arith

  -- one font seeks a name that the other has exactly if the component is in conflict
  lacking_so : (p : List ℕ) → one_lacks (maps.get (name_part v) p) (maps.get (name_part w) p) ≡ component_clashes profile f g p
  lacking_so p =
      grind (arith, seeking_seen f v a p, seeking_seen g w b p, charstring_seen f v a p, charstring_seen g w b p, wanted_so p, sought_is f p, sought_is g p)

  -- the lowest name that one seeks and the other has is the conflict of components
  pub component_found : (x : Option (List ℕ)) → IsLowest name_cmp (λ n. one_lacks (maps.get (name_part v) n) (maps.get (name_part w) n)) x →
      x ≡ component_conflict profile f g
  component_found x h = lowest_is nat_list_cmp_total name_same (component_clashes profile f g) (glyphs_of_both f g)
      (λ n h. in_both nat_list_cmp_total name_same f.glyphs g.glyphs n
      ∙ first_so (has f n || has g n) (list_any (wanted_by profile f g n) (members (glyphs_of_both f g))) h)
      x (subst (λ p. IsLowest name_cmp p x) (λ i n. lacking_so n i) h)

-- ---- the table of a font's names

module _ (f : FontValue) where
  -- the table of the glyphs and of what they seek has the states of the names
  pub names_made : (s seekers : TableMeaning) → ((q : Meaning) → maps.get s q ≡ cond (maps.contains_key seekers q) (Some []) None) →
      ((p : List ℕ) → maps.get seekers p ≡ seeker_of f p) → names_table f.glyphs s ≡ name_states profile f
  names_made s seekers h are = same_table (names_table f.glyphs s) (name_states profile f) (λ q.
      get-name f.glyphs s q
      ∙ ap (joined_state (option_map (λ c. name_meaning (Some c)) (maps.get f.glyphs q)))
      (h q ∙ ap (λ b. cond b (Some []) None) (ap is_some (are q) ∙ sought_is f q))
      ∙ grind (cases, get-names profile f q))

-- ---- fonts without a conflict

module _ {O : Type 0} (m : Interpreter O) (f g : FontValue) (h : states_conflict m f g ≡ None) where
  -- fonts without a conflict of states that are not within the limits are over them
  pub over : (is_within m f g ≡ true → ⊥) → conflict m f g ≡ Some OverLimit
  over k = grind (arith, h, k)

-- ---- what is found in turn

-- a refusal that tells one conflict tells another that is the same wherever there is one
tells_on : (e : Refusal) (c d : Option Conflict) → ((x : Conflict) → c ≡ Some x → d ≡ Some x) → Tells e c → Tells e d
tells_on e c d h t = grind arith

module _ (f g : FontValue) where
  -- the first part that differs is the conflict of shells
  pub parts_seen : (s t : Shared) → s ≡ shared_of f → t ≡ shared_of g → differing_part s t ≡ shell_conflict f g
  parts_seen s t a b = λ i. differing_part (a i) (b i)

  -- what is found of each kind in turn is the lowest conflict of states, if the shells have none
  pub states_are : {c : Option ℕ} {n p : Option (List ℕ)} {i : Option ℕ} → shell_conflict f g ≡ None →
      c ≡ code_conflict f g → n ≡ glyph_conflict f g → p ≡ component_conflict profile f g → i ≡ subr_conflict profile f g
      → states_conflict profile f g
      ≡ found CodeDiffers c (found GlyphDiffers n (found (λ p. LacksComponent (unwrap_or (smallest (wanted_by profile f g p) (glyphs_of_both f g)) []) p) p
      (found (λ i. SubrDiffers i (smallest (used_by profile f g i) (glyphs_of_both f g))) i None)))
  states_are s c n p i = sym (λ j. found ShellDiffers (sym s j)
      (found CodeDiffers (c j) (found GlyphDiffers (n j) (found (λ p. LacksComponent (unwrap_or (smallest (wanted_by profile f g p) (glyphs_of_both f g)) []) p)
      (p j) (found (λ i. SubrDiffers i (smallest (used_by profile f g i) (glyphs_of_both f g))) (i j) None)))))

  -- a refusal that tells a part that differs tells the lowest conflict of states
  pub tells_shell : (x : Option ShellPart) → x ≡ shell_conflict f g → (e : Refusal) → Tells e (option_map ShellDiffers x) →
      Tells e (states_conflict profile f g)
  tells_shell x is e t = tells_on e (option_map ShellDiffers x) (states_conflict profile f g) (λ c h. grind (cases, is, h)) t

  -- a refusal that tells the lowest conflict of states tells that of the fonts
  pub tells_states : (e : Refusal) → Tells e (states_conflict profile f g) → Tells e (conflict profile f g)
  tells_states e t = tells_on e (states_conflict profile f g) (conflict profile f g)
      (λ x h. ap (λ o. found (λ c. c) o (cond (is_within profile f g) None (Some OverLimit))) h) t
