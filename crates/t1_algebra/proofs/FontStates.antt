-- The states of a font as tables: what stands at each key, what they weigh, that they join as the fonts do, and that they determine the font.
use Rattle.std.proofs.Common.{◌≡◌, ◌↔◌, not, ◌≤◌, ℕ, ◌+◌, ◌*◌, ◌-◌, true, cond, List, [], ◌∷◌, map, length, refl, sym, ◌∙◌, ap, subst, Option, Some, None, option_map, is_some, arith, inl, ⊎_elim}
use Rattle.std.proofs.{Common.{nat_cmp}, lemmas.List.{length-map}}
use Rattle.t1_join.specs.{Meaning.{of_number}, Join.{State}, StateLaws.{same_meaning-self}, TableMeaning.{TableMeaning, joined_table}, TableLaws.{get_joined, same_table}}
use Rattle.t1_font.specs.{FontModel.{word_of, encoding_by, font_by}, Maps.{map_values}}
use Rattle.t1_font.specs.FontValue.{FontValue, SparseArray, CharStrings, total, subr_weight, weight, weight_limit, count_limit, names_in}
use Rattle.t1_font.proofs.{CutEntries.{entries-retain}, MapLemmas.{entries_all, get-retain, get-map_values}}
use Rattle.t1_font.specs.MadeTables.{numbered, entry_or_stub}
use Rattle.t1_algebra.specs.States.{named_at, code_state, KeepsLimits, is_sought, subr_state, name_state, Compatible, Join, joined_font}
use Rattle.t1_algebra.specs.StateTables.{StatesValue, name_meaning, behind_mark, AreSought, used_subrs, all_components, name_states, states_of, subr_adds, name_adds, code_states}
use Rattle.t1_algebra.specs.StateTables.{states_weight, states_glyphs, StatesFit, name_part, subr_part, code_part, joined_states, PartsJoin, FontStatesAgree, FontStatesJoin}
use Rattle.t1_algebra.specs.StateLaws.{PartsAgree, parts_laws}
use Rattle.t1_algebra.proofs.{Words.{nat_cmp_total, nat_list_cmp_total, nat_cmp-IsAntisymmetric, eq_by_cmp, list_any, Interpreter, same_bytes}, Shares.{same_indices, sharing}, Maps.{get-valued}}
use Rattle.t1_algebra.proofs.{Sets.{any_flat_map, name_same, cases}, JoinedStates.{subr_joined, name_joined, present_joined}, Subsets.{stub_is, same_font, same_encoding, code_joined}}
use Rattle.t1_algebra.proofs.Sums.{total_kept, total_mapped, names_total, names_count}
use Rattle.t1_algebra.proofs.Tables.{get-numbered, entries-numbered, get-name, charstring_in, Shows, cases_key, codes_shown, shown_agree, agree_shown, shown_joined, to_agree}
use Rattle.std.specs.FinMap as maps

-- ---- states that agree

-- what the state of a name means in a table
abbrev pub meant : Option (Option (List ℕ)) → State
meant x = option_map name_meaning x

-- ---- what stands at each key

module _ {O : Type 0} (m : Interpreter O) (f : FontValue) where
  -- the table of Subrs has the state of each index
  pub get-used : (i : ℕ) → maps.get (used_subrs m f) i ≡ subr_state m f i
  get-used i = grind (cases, get-retain nat_cmp_total nat_cmp-IsAntisymmetric f.subrs (λ i. is_some (subr_state m f i)) i)

  -- so has the table by number
  pub subrs_shown : Shows (numbered (used_subrs m f)) (subr_state m f)
  subrs_shown q = grind (arith, get-numbered (used_subrs m f) q, cases_key q, get-used)

  -- the names that are sought
  abbrev sought : TableMeaning
  sought = maps.from_entries (map (λ p. (p, name_meaning None)) (all_components m f))

  get-sought : (n : List ℕ) → maps.get sought n ≡ cond (is_sought m f n) (Some []) None
  get-sought n = get-valued nat_list_cmp_total [] (all_components m f) n
      ∙ ap (λ b. cond b (Some []) None) (any_flat_map (same_bytes n) (λ n. named_at m f (maps.get f.glyphs n)) (names_in f.glyphs))

  are_sought : AreSought sought
  are_sought n v is = grind (cases, is, get-sought n)

  -- the table of names has the state of each name
  pub get-names : (n : List ℕ) → maps.get (name_states m f) n ≡ meant (name_state m f n)
  get-names n = grind (cases, get-name f.glyphs sought n, get-sought n)

-- ---- compatible fonts have states that agree

module _ {O : Type 0} (m : Interpreter O) (f g : FontValue) where
  -- the states of compatible fonts agree part by part
  pub compatible_agree : Compatible m f g → PartsAgree (states_of m f) (states_of m g)
  compatible_agree c = (
    (sharing f g).0 (record { shells = c.shells; present = c.present; kinds = c.kinds }),
    (
      shown_agree _ _ _ _ (codes_shown f.encoding) (codes_shown g.encoding) c.codes,
      (λ n. grind (cases, get-names m f n, get-names m g n, c.names n, same_meaning-self), shown_agree _ _ _ _ (subrs_shown m f) (subrs_shown m g) c.subrs),
    ),
  )

  -- fonts whose states agree part by part are compatible
  pub agree_compatible : PartsAgree (states_of m f) (states_of m g) → Compatible m f g
  agree_compatible h = let shared = (sharing f g).1 h.0 in record {
    shells = shared.shells;
    present = shared.present;
    kinds = shared.kinds;
    subrs = agree_shown _ _ _ _ (subrs_shown m f) (subrs_shown m g) h.1.1.1;
    names = λ n. grind (cases, get-names m f n, get-names m g n, to_agree (maps.get (name_states m f) n) (maps.get (name_states m g) n) (h.1.1.0 n));
    codes = agree_shown _ _ _ _ (codes_shown f.encoding) (codes_shown g.encoding) h.1.0;
  }

  -- the states of a join are the joined states
  pub parts_join : Compatible m f g → PartsJoin (states_of m f) (states_of m g) (states_of m (joined_font m f g))
  parts_join c =
      let a = compatible_agree c in
      let j = joined_font m f g in
      let word : word_of j.encoding ≡ word_of f.encoding = grind (cases, c.kinds) in
      let codes =
      shown_joined _ _ _ _ (codes_shown f.encoding) (codes_shown g.encoding) _ _ (codes_shown j.encoding) (code_joined f.encoding g.encoding c.kinds) in
      let names = same_table (name_states m j) (joined_table (name_states m f) (name_states m g)) (λ n.
      grind (cases, get-names m j n, name_joined m f g c n, get-names m f n, get-names m g n, get_joined (name_states m f) (name_states m g) n)) in
      let subrs = shown_joined _ _ _ _ (subrs_shown m f) (subrs_shown m g) _ _ (subrs_shown m j) (subr_joined m f g c) in
      ((a.0, λ i. (f.shell, (word i, same_indices j.subrs f.subrs (present_joined m f g) i))), ((a.1.0, codes), ((a.1.1.0, names), (a.1.1.1, subrs))))

-- ---- weights

-- Subrs weigh what as many stubs weigh and what each has beyond a stub
total_apart : (iv : ℕ) (es : List (ℕ × List ℕ)) → total (subr_weight iv) es ≡ length es * (129 + iv) + total (λ i c. length c - 1) es
total_apart iv [] = omega arith
total_apart iv (e ∷ es) = omega (arith, total_apart iv es)

module _ {O : Type 0} (m : Interpreter O) (f : FontValue) where
  -- the Subrs of a font weigh as many stubs and what their states add
  subrs_weigh : total (subr_weight f.shell.len_iv) (maps.entries f.subrs)
      ≡ length (maps.keys f.subrs) * (129 + f.shell.len_iv) + total subr_adds (maps.entries (numbered (used_subrs m f)))
  subrs_weigh =
      let nothing = total_kept (λ i c. length c - 1) (λ e. is_some (subr_state m f e.0)) (maps.entries f.subrs)
      (entries_all nat_cmp_total nat_cmp-IsAntisymmetric
      (λ i c. not (is_some (subr_state m f i)) ≡ true → length c - 1 ≡ 0) f.subrs (λ i c is h. grind (cases, is, h, stub_is c))) in
      let added = ap (total subr_adds) (entries-numbered (used_subrs m f)) ∙ total_mapped of_number (λ c. c) subr_adds (maps.entries (used_subrs m f))
      ∙ ap (total (λ i c. length c - 1)) (entries-retain nat_cmp_total nat_cmp-IsAntisymmetric f.subrs (λ i. is_some (subr_state m f i))) ∙ nothing in
      total_apart f.shell.len_iv (maps.entries f.subrs) ∙ (λ i. sym (length-map (maps.entries f.subrs) (λ e. e.0)) i * (129 + f.shell.len_iv) + sym added i)

  -- the charstrings among the states of a font's names are those of its glyphs
  pub glyphs_among : (g : CharStrings) → ((n : List ℕ) → maps.get g n ≡ behind_mark (maps.get (name_states m f) n)) → g ≡ f.glyphs
  glyphs_among g h =
      maps.same_map nat_list_cmp_total name_same g f.glyphs (λ n. h n ∙ charstring_in f.glyphs (sought m f) (are_sought m f) (name_states m f) refl n)

  -- the weight of a font's states is the weight of the font
  pub weight_is : states_weight (states_of m f) ≡ weight f
  weight_is = let subrs = subrs_weigh in let glyphs = names_total f.glyphs (sought m f) (are_sought m f) (name_adds f.shell.len_iv) (λ n. refl) in
      omega (arith, subrs, glyphs)

  -- a font's states count the glyphs of the font
  pub glyphs_are : states_glyphs (states_of m f) ≡ maps.len f.glyphs
  glyphs_are = names_count f.glyphs (sought m f) (are_sought m f)

  -- a font is within the limits exactly if its states are
  pub fits : KeepsLimits f ↔ StatesFit (states_of m f)
  fits = (
    λ w. record { weight = subst (λ n. n ≤ weight_limit) (sym weight_is) w.weight; glyphs = subst (λ n. n ≤ count_limit) (sym glyphs_are) w.glyphs },
    λ w. record { weight = subst (λ n. n ≤ weight_limit) weight_is w.weight; glyphs = subst (λ n. n ≤ count_limit) glyphs_are w.glyphs },
  )

-- ---- fonts join exactly if their states agree

module _ {O : Type 0} (m : Interpreter O) (f g : FontValue) where
  -- the states of fonts that join have the states of the join for theirs
  pub states_join : Join m f g → FontStatesJoin (states_of m f) (states_of m g) (states_of m (joined_font m f g))
  states_join j = (parts_join m f g j.states, inl ((fits m (joined_font m f g)).0 j.within))

  -- fonts within the limits join exactly if their states agree
  pub join_exactly : KeepsLimits f → FontStatesAgree (states_of m f) (states_of m g) ↔ Join m f g
  join_exactly w = (to, λ j. (states_of m (joined_font m f g), states_join j))
    where
      to : FontStatesAgree (states_of m f) (states_of m g) → Join m f g
      to h =
          let c = agree_compatible m f g (parts_laws.only_where _ _ h.0 h.1.0) in
          let same : h.0 ≡ states_of m (joined_font m f g) = parts_laws.one_answer _ _ _ _ h.1.0 (parts_join m f g c) in
          record {
            states = c;
            within = (fits m (joined_font m f g)).1 (subst StatesFit same (⊎_elim (λ a. a) (λ b. subst StatesFit b.0 ((fits m f).0 w)) h.1.1));
          }

-- ---- joined states

module _ (x y : StatesValue) where
  -- a join part by part is that of the states of both
  is_joined : (z : StatesValue) → PartsJoin x y z → z ≡ joined_states x y
  is_joined z h = λ i. (h.0.1 i, (h.1.0.1 i, (h.1.1.0.1 i, h.1.1.1.1 i)))

  -- states within the limits agree exactly if their parts do and the joined states are within the limits
  pub agree_by_parts : StatesFit x → FontStatesAgree x y ↔ (PartsAgree x y × StatesFit (joined_states x y))
  agree_by_parts w = (
    λ h. (parts_laws.only_where x y h.0 h.1.0, subst StatesFit (is_joined h.0 h.1.0) (⊎_elim (λ a. a) (λ b. subst StatesFit b.0 w) h.1.1)),
    λ h. let z = parts_laws.some_answer x y h.0 in (z.0, (z.1, inl (subst StatesFit (sym (is_joined z.0 z.1)) h.1))),
  )

-- ---- a font is determined by its states

module _ {O : Type 0} (m : Interpreter O) (f g : FontValue) (e : states_of m f ≡ states_of m g) where
  -- tables that are the same show the same
  same_shown : (s t : TableMeaning) (x y : ℕ → Option (List ℕ)) → Shows s x → Shows t y → s ≡ t → (i : ℕ) → x i ≡ y i
  same_shown s t x y shows also e i = grind (arith, shows (of_number i), also (of_number i), e)

  -- fonts with the same states are the same
  pub font_known : f ≡ g
  font_known =
      let shared = (sharing f g).1 (ap (λ (s : StatesValue). s.0) e) in
      same_font f g shared.shells (same_encoding f.encoding g.encoding (ap (λ (s : StatesValue). s.0.1.0) e)
      (same_shown _ _ _ _ (codes_shown f.encoding) (codes_shown g.encoding) (ap code_part e)))
      (λ i. grind (cases, same_shown _ _ _ _ (subrs_shown m f) (subrs_shown m g) (ap subr_part e) i, shared.present i, stub_is))
      (λ n. grind (cases, get-names m f n, get-names m g n, ap (λ (t : TableMeaning). maps.get t n) (ap name_part e)))

-- ---- a font is made of its states

module _ {O : Type 0} (m : Interpreter O) (f : FontValue) where
  -- a font has the state of each of its Subrs, or a stub where it is the bottom
  subr_again : (i : ℕ) → option_map (λ c. entry_or_stub (numbered (used_subrs m f)) i) (maps.get f.subrs i) ≡ maps.get f.subrs i
  subr_again i = grind (cases, subrs_shown m f (of_number i), stub_is)

  -- the Encoding is the word that the font shares, or else the table of the names of its codes
  encoding_again : (codes : SparseArray) → numbered codes ≡ code_states f.encoding → encoding_by (word_of f.encoding) codes ≡ f.encoding
  encoding_again codes same =
      let named : (c : ℕ) → maps.get codes c ≡ code_state f.encoding c =
      λ c. sym (get-numbered codes (of_number c)) ∙ ap (λ (t : TableMeaning). maps.get t (of_number c)) same ∙ codes_shown f.encoding (of_number c) in
      same_encoding (encoding_by (word_of f.encoding) codes) f.encoding (grind cases) (λ c. grind (cases, named c))

  -- the font of its states, with stubs for the Subrs that have none, is the font
  pub font_again : (codes present : SparseArray) (glyphs : CharStrings) → numbered codes ≡ code_states f.encoding → maps.keys present ≡ maps.keys f.subrs →
      ((n : List ℕ) → maps.get glyphs n ≡ behind_mark (maps.get (name_states m f) n)) →
      font_by f.shell (word_of f.encoding) codes (map_values (λ i c. entry_or_stub (numbered (used_subrs m f)) i) present) glyphs ≡ f
  font_again codes present glyphs same keys are = same_font _ f refl (encoding_again codes same)
      (λ i.
      let there = maps.contains_key-keys present i ∙ ap (list_any (eq_by_cmp nat_cmp i)) keys ∙ sym (maps.contains_key-keys f.subrs i) in
      let values = get-map_values nat_cmp_total nat_cmp-IsAntisymmetric (λ i c. entry_or_stub (numbered (used_subrs m f)) i) present i in
      grind (cases, there, values, subr_again i))
      (λ n. ap (λ (g : CharStrings). maps.get g n) (glyphs_among m f glyphs are))

  -- so is a font that is made of its states
  pub font_made : (s : StatesValue) → s ≡ states_of m f → (codes present subrs : SparseArray) (glyphs : CharStrings) →
      numbered codes ≡ code_part s → maps.keys present ≡ s.0.1.1 → subrs ≡ map_values (λ i c. entry_or_stub (subr_part s) i) present →
      ((n : List ℕ) → maps.get glyphs n ≡ behind_mark (maps.get (name_part s) n)) → font_by s.0.0 s.0.1.0 codes subrs glyphs ≡ f
  font_made s e codes present subrs glyphs same keys stubbed are =
      let filled = stubbed ∙ ap (λ (s : StatesValue). map_values (λ i c. entry_or_stub (subr_part s) i) present) e in
      (λ i. font_by (e i).0.0 (e i).0.1.0 codes (filled i) glyphs)
      ∙ font_again codes present glyphs (same ∙ ap code_part e) (keys ∙ ap (λ (s : StatesValue). s.0.1.1) e)
      (λ n. are n ∙ ap (λ (s : StatesValue). behind_mark (maps.get (name_part s) n)) e)
