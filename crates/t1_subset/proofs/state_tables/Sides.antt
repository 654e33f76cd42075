-- What the references and the states of two fonts show of their conflicts.
use Rattle.std.proofs.Common.{arith, ◌≡◌, ◌↔◌, ◌<◌, ℕ, Bool, true, false, cond, ◌&&◌, ◌||◌, List, [], ◌∷◌, filter, refl, sym, ◌∙◌, ap, Option, Some, None, is_some}
use Rattle.std.specs.{Cmp.{nat_cmp_total}, FinSet.{nat_cmp-IsAntisymmetric}, Cmp.Lexicographic.{nat_list_cmp_total}}
use Rattle.t1_join.specs.{TableMeaning.{TableMeaning, joined_table}, Meaning.{of_number}, TableLaws.{get_joined}}
use Rattle.t1_font.specs.{FontValue.{FontValue, name_cmp, names_in}, IsFont.{IsFont}}
use Rattle.t1_algebra.specs.Conflicts.{Conflict, SubrDiffers, keys_of_both, OverLimit, is_within, codes_of_both, glyphs_of_both, code_clashes, glyph_clashes, component_clashes, subr_clashes}
use Rattle.t1_algebra.specs.{Conflicts.{wanted_by, subr_differs, states_conflict, conflict, states_conflicts, conflicts}, Keep.{has}, Profile.{profile}}
use Rattle.t1_algebra.specs.{Searches.{members, smallest, passing, first_of, or_else}, States.{Join, code_state, subr_state}, StateTables.{StatesValue, FontStatesAgree, code_part, subr_part}}
use Rattle.t1_algebra.specs.StateLaws.{states_laws}
use Rattle.t1_algebra.proofs.{Maps.{in_both}, Sets.{name_same, cases}, Tables.{codes_shown}, FontStates.{subrs_shown}, AllConflicts.{first_of_states, all_conflicts}}
use Rattle.t1_subset.specs.{declared.references.References.{References}, declared.conflict.Conflict.{Conflict as Refusal}}
use Rattle.t1_subset.specs.{References.{IsNoted}, Clashes.{AreStatesOf}, Differences.{smaller}, Refusals.{TellEach}}
use Rattle.t1_subset.proofs.{Telling.{none_tells, tells_none}, state_tables.Walks.{joins_to, limits_refuse}, state_tables.Conflicts.{clash_there, code_there, no_name}}
use Rattle.t1_subset.proofs.state_tables.FontReferences.{any_first, smallest_user, smallest_seeker}
use Rattle.t1_subset.proofs.state_tables.PassingKeys.{passing_same, passing_keys, keys_rise, numbers_from, numbers_rise, number_among}
use Rattle.std.specs.FinMap as maps

-- ---- one font

module _ (c : References) (s : StatesValue) (h : IsNoted c s) where
  -- a table of codes has the name of each code
  pub code_seen : (t : TableMeaning) → t ≡ code_part s → (i : ℕ) → maps.get t (of_number i) ≡ code_state c.font.now.encoding i
  code_seen t e i = ap (λ (t : TableMeaning). maps.get t (of_number i)) (e ∙ ap code_part h.states) ∙ codes_shown c.font.now.encoding (of_number i)

  -- a table of Subrs has the state of each index
  pub subr_seen : (t : TableMeaning) → t ≡ subr_part s → (i : ℕ) → maps.get t (of_number i) ≡ subr_state profile c.font.now i
  subr_seen t e i = ap (λ (t : TableMeaning). maps.get t (of_number i)) (e ∙ ap subr_part h.states) ∙ subrs_shown profile c.font.now (of_number i)

-- ---- two fonts

module _ (f g : FontValue) where
  -- all codes that differ are among the first 256
  pub codes_passing : IsFont f → filter (code_clashes f g) (numbers_from 0 256) ≡ passing (code_clashes f g) (codes_of_both f.encoding g.encoding)
  codes_passing h =
      passing_same nat_cmp_total nat_cmp-IsAntisymmetric (code_clashes f g) (numbers_from 0 256) (members (codes_of_both f.encoding g.encoding))
      (numbers_rise 0 256) (keys_rise nat_cmp_total nat_cmp-IsAntisymmetric (codes_of_both f.encoding g.encoding)) (λ q k.
      let below : q < 256 = grind (cases, k, no_name f.encoding h.encoding q) in
      number_among q 0 256 (omega arith) (omega (arith, below))
      ∙ sym (sym (maps.contains_key-keys (codes_of_both f.encoding g.encoding) q) ∙ code_there f.encoding g.encoding q k))

  -- all glyphs that differ are glyphs of the first font
  pub glyphs_passing : filter (glyph_clashes f g) (names_in f.glyphs) ≡ passing (glyph_clashes f g) (glyphs_of_both f g)
  glyphs_passing = passing_keys nat_list_cmp_total name_same (glyph_clashes f g) f.glyphs (glyphs_of_both f g)
      (λ q h. grind (cases, h, clash_there nat_list_cmp_total name_same f.glyphs g.glyphs q h))

  -- both fonts have a Subr that differs
  pub subr_there : (i : ℕ) → subr_clashes profile f g i ≡ true → (maps.contains_key f.subrs i ≡ true) × (maps.contains_key g.subrs i ≡ true)
  subr_there i h = (grind (cases, h), grind (cases, h))

  -- all Subrs that differ are Subrs of the first font
  pub subrs_passing : filter (subr_clashes profile f g) (maps.keys f.subrs) ≡ passing (subr_clashes profile f g) (keys_of_both f.subrs g.subrs)
  subrs_passing = passing_keys nat_cmp_total nat_cmp-IsAntisymmetric (subr_clashes profile f g) f.subrs (keys_of_both f.subrs g.subrs)
      (λ q h. grind (cases, subr_there q h, in_both nat_cmp_total nat_cmp-IsAntisymmetric f.subrs g.subrs q))

  -- a component is in conflict if one font has it and some glyph seeks it
  pub component_is : (p : List ℕ) → component_clashes profile f g p
      ≡ ((has f p || has g p) && is_some (smallest (wanted_by profile f g p) (glyphs_of_both f g)))
  component_is p = ap (λ b. (has f p || has g p) && b) (any_first (wanted_by profile f g p) (members (glyphs_of_both f g)))

module _ (c d : References) (s t : StatesValue) (h : IsNoted c s) (k : IsNoted d t) where
  -- the smaller of what is noted of an index that both fonts have is its smallest user
  pub user_is : (i : ℕ) (x y z : Option (List ℕ)) → x ≡ maps.get c.users (of_number i) → y ≡ maps.get d.users (of_number i) → z ≡ smaller name_cmp x y
      → subr_clashes profile c.font.now d.font.now i ≡ true → SubrDiffers i z ≡ subr_differs profile c.font.now d.font.now i
  user_is i x y z a b e w =
      let there = subr_there c.font.now d.font.now i w in
      ap (SubrDiffers i) (e ∙ (λ j. smaller name_cmp ((a ∙ h.references.users i there.0) j) ((b ∙ k.references.users i there.1) j))
      ∙ smallest_user c.font.now d.font.now i)

  -- the smaller of what is noted of a component is its smallest seeker
  pub seeker_is : (p : List ℕ) (x y z : Option (List ℕ)) → x ≡ maps.get c.seekers p → y ≡ maps.get d.seekers p → z ≡ smaller name_cmp x y
      → z ≡ smallest (wanted_by profile c.font.now d.font.now p) (glyphs_of_both c.font.now d.font.now)
  seeker_is p x y z a b e =
      e ∙ (λ j. smaller name_cmp ((a ∙ h.references.seekers p) j) ((b ∙ k.references.seekers p) j)) ∙ smallest_seeker c.font.now d.font.now p

  -- all components in conflict are sought
  pub components_passing : filter (component_clashes profile c.font.now d.font.now) (maps.keys (joined_table c.seekers d.seekers))
      ≡ passing (component_clashes profile c.font.now d.font.now) (glyphs_of_both c.font.now d.font.now)
  components_passing =
      let f = c.font.now in let g = d.font.now in
      passing_keys nat_list_cmp_total name_same (component_clashes profile f g) (joined_table c.seekers d.seekers) (glyphs_of_both f g) (λ p w.
      grind (
        cases,
        w,
        component_is f g p,
        seeker_is p (maps.get c.seekers p) (maps.get d.seekers p) (smaller name_cmp (maps.get c.seekers p) (maps.get d.seekers p)) refl refl refl,
        get_joined c.seekers d.seekers p,
        in_both nat_list_cmp_total name_same f.glyphs g.glyphs p,
      ))

  -- ---- all conflicts

  abbrev f : FontValue
  f = c.font.now

  abbrev g : FontValue
  g = d.font.now

  -- the states are those of the fonts
  are_states : AreStatesOf s t f g
  are_states = record { own_font = h.is_font; other_font = k.is_font; own = h.states; other = k.states }

  -- where there are conflicts of states, these are all
  pub some_are_all : (es : List Refusal) → ¬ (es ≡ []) → TellEach es (states_conflicts profile f g) → TellEach es (conflicts profile f g)
  some_are_all es some told = by (states_conflicts profile f g) told
    where
      by : (cs : List Conflict) → TellEach es cs → TellEach es (or_else cs (cond (is_within profile f g) [] (OverLimit ∷ [])))
      by [] told = absurd (some (none_tells es [] refl told))
      by (c ∷ cs) told = told

  -- fonts whose states agree have no conflicts
  pub agreeing_have_none : FontStatesAgree s t → conflicts profile f g ≡ []
  agreeing_have_none agree =
      let z = states_laws.some_answer s t agree in (all_conflicts profile f g).0.1 (joins_to s t f g are_states z.0 z.1).0

  -- fonts without a conflict of states that don't agree have one of the limits
  pub limits_are_all : states_conflicts profile f g ≡ [] → ¬ FontStatesAgree s t → conflicts profile f g ≡ OverLimit ∷ []
  limits_are_all none apart =
      let free : states_conflict profile f g ≡ None = sym (first_of_states profile f g) ∙ ap first_of none in
      let told = limits_refuse s t f g are_states free apart in
      ap (λ cs. or_else cs (cond (is_within profile f g) [] (OverLimit ∷ []))) none ∙ by (is_within profile f g) refl free told
    where
      by : (b : Bool) → is_within profile f g ≡ b → states_conflict profile f g ≡ None → conflict profile f g ≡ Some OverLimit
          → cond (is_within profile f g) [] (OverLimit ∷ []) ≡ OverLimit ∷ []
      by true w free told = absurd (grind (arith, w, free, told))
      by false w free told = ap (λ b. cond b [] (OverLimit ∷ [])) w

-- refusals that tell all conflicts are none exactly if the fonts join
pub none_or_join : (f g : FontValue) (es : List Refusal) → TellEach es (conflicts profile f g) → (es ≡ []) ↔ Join profile f g
none_or_join f g es told = (
  λ e. (all_conflicts profile f g).0.0 (tells_none es (conflicts profile f g) e told),
  λ j. none_tells es (conflicts profile f g) ((all_conflicts profile f g).0.1 j) told,
)
