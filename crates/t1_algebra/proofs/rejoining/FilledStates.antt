-- A font that is filled has the states that it had, where its glyphs execute nothing that it lacks and gets.
use Rattle.std.proofs.Common.{◌≡◌, ◌<◌, ℕ, zero, suc, nat_lt, arith, Bool, true, false, not, ◌&&◌, cond, List, [], ◌∷◌, ◌⊎◌, inl, inr, map, flat_map, refl, sym, ◌∙◌, ap, subst, Option, Some, None}
use Rattle.std.proofs.{Common.{is_some, option_map, nat_cmp}, lemmas.Bool.{ltb-true, ltb-false}, lemmas.List.Folds.{list_any-append}}
use Rattle.std.specs.{Str.{bytes_eq}, List.{find}}
use Rattle.t1_font.specs.{FontValue.{FontValue, declared_count, names_in}, Cut.{stub}, Normalizing.{stubs_at, below_count, with_stubs, filled, indices_of_all}}
use Rattle.t1_font.specs.MadeTables.{numbered}
use Rattle.t1_algebra.specs.{Keep.{has}, Profile.{profile}, Shared.{shared_of}, Conflicts.{wants}, States.{executed_at, executes, named_at, is_called, subr_state, state_of_entry, joined_option}}
use Rattle.t1_algebra.specs.{StateTables.{code_states, used_subrs, names_table, name_meaning, states_of}, Lacks.{Lack, user_of, first_below, is_had, lack_at, lack_in}}
use Rattle.t1_algebra.proofs.{Words.{list_any, same_bytes, eq_by_cmp, nat_cmp_total, nat_list_cmp_total, nat_cmp-IsAntisymmetric}, Maps.{get-merged, get-valued}}
use Rattle.t1_algebra.proofs.{Sets.{clash, any_filter, name_same, cases}, Searching.{none_at_all, found_none}, FontStates.{get-used}}
use Rattle.std.specs.FinSet as sets
use Rattle.std.specs.FinMap as maps

-- a search finds something where some element passes
found_any : {X : Type 0} (p : X → Bool) (xs : List X) → is_some (find p xs) ≡ list_any p xs
found_any p [] = refl
found_any p (x ∷ xs) = grind (cases, found_any p xs)

module _ (f : FontValue) (indices : List ℕ) where
  -- the font, filled at these indices
  abbrev full : FontValue
  full = filled indices f

  -- an index at which it gets a stub
  pub record IsAdded (i : ℕ) : Type 0 where
    pub absent : maps.get f.subrs i ≡ None
    pub stub : maps.get full.subrs i ≡ Some stub
    pub below : i < declared_count f.shell.subrs
    pub listed : list_any (eq_by_cmp nat_cmp i) indices ≡ true

  -- the indices that get one where they lack a Subr
  abbrev inside : List ℕ
  inside = below_count (declared_count f.shell.subrs) indices

  -- an entry at an index is the font's, or a stub that is added
  abbrev OwnOrStub : ℕ → Option (List ℕ) → Type 0
  OwnOrStub i x = (x ≡ maps.get f.subrs i)
      ⊎ ((maps.get f.subrs i ≡ None) × (x ≡ Some stub) × (i < declared_count f.shell.subrs) × (list_any (eq_by_cmp nat_cmp i) indices ≡ true))

  own_or_stub : (i : ℕ) (x : Option (List ℕ)) (b : Bool) → maps.get f.subrs i ≡ x → list_any (eq_by_cmp nat_cmp i) inside ≡ b →
      OwnOrStub i (joined_option x (cond b (Some stub) None))
  own_or_stub i (Some c) b e t = inl (sym e)
  own_or_stub i None false e t = inl (sym e)
  own_or_stub i None true e t =
      let w = any_filter nat_cmp_total nat_cmp-IsAntisymmetric (λ i. nat_lt i (declared_count f.shell.subrs)) i indices t in
      inr (e, refl, ltb-true i (declared_count f.shell.subrs) w.1, w.0)

  by_entries : (i : ℕ) (es : List (ℕ × List ℕ)) → OwnOrStub i (maps.get (with_stubs inside f.subrs es) i)
  by_entries i [] = inl refl
  by_entries i (x ∷ es) =
      subst (OwnOrStub i) (sym (get-merged nat_cmp_total nat_cmp-IsAntisymmetric f.subrs (stubs_at inside) i
      ∙ ap (joined_option (maps.get f.subrs i)) (get-valued nat_cmp_total stub inside i)))
      (own_or_stub i (maps.get f.subrs i) (list_any (eq_by_cmp nat_cmp i) inside) refl refl)

  -- at any other index it has what it had
  pub same_or_added : (i : ℕ) → (maps.get full.subrs i ≡ maps.get f.subrs i) ⊎ IsAdded i
  same_or_added i = elim (by_entries i (maps.entries f.subrs)) [
    | inl e ↦ inl e
    | inr a ↦ inr (record { absent = a.0; stub = a.1; below = a.2; listed = a.3 })
  ]

  -- no glyph executes an index at which a stub is put
  module _ (quiet : (i : ℕ) → IsAdded i → user_of f i ≡ None) where
    module _ (n c : List ℕ) (is : maps.get f.glyphs n ≡ Some c) where
      not_executed : (i : ℕ) → IsAdded i → sets.contains (profile.exec f.subrs c) i ≡ false
      not_executed i a = sym (ap (executed_at profile f i) is)
          ∙ none_at_all nat_list_cmp_total name_same (λ n. executes profile f n i) (names_in f.glyphs) n (quiet i a)
          (sym (maps.contains_key-keys f.glyphs n) ∙ ap is_some is)

      pub executed_there : (i : ℕ) → sets.contains (profile.exec f.subrs c) i ≡ true → maps.get full.subrs i ≡ maps.get f.subrs i
      executed_there i h = elim (same_or_added i) [ inl e ↦ e | inr a ↦ clash (sets.contains (profile.exec f.subrs c) i) h (not_executed i a) ]

      -- a glyph runs as before
      pub runs_same : (profile.direct full.subrs c ≡ profile.direct f.subrs c) × (profile.exec full.subrs c ≡ profile.exec f.subrs c)
      runs_same = profile.local f.subrs full.subrs c executed_there

    -- it executes what it did, and names what it named
    executes_same : (i : ℕ) (n : List ℕ) → executes profile full n i ≡ executes profile f n i
    executes_same i n = by (maps.get f.glyphs n) refl
      where
        by : (o : Option (List ℕ)) → maps.get f.glyphs n ≡ o → executed_at profile full i o ≡ executed_at profile f i o
        by None is = refl
        by (Some c) is = ap (λ s. sets.contains s i) (runs_same n c is).1

    named_same : (n : List ℕ) → named_at profile full (maps.get f.glyphs n) ≡ named_at profile f (maps.get f.glyphs n)
    named_same n = by (maps.get f.glyphs n) refl
      where
        by : (o : Option (List ℕ)) → maps.get f.glyphs n ≡ o → named_at profile full o ≡ named_at profile f o
        by None is = refl
        by (Some c) is = ap profile.names (runs_same n c is).0

    -- so each Subr has the same smallest user, and each component the same smallest seeker
    pub user_same : (i : ℕ) → user_of full i ≡ user_of f i
    user_same i = λ j. find (λ n. executes_same i n j) (names_in f.glyphs)

    pub seeker_same : (p : List ℕ) → find (λ n. wants profile full n p) (names_in full.glyphs) ≡
        find (λ n. wants profile f n p) (names_in f.glyphs)
    seeker_same p = λ j. find (λ n. not (has f p) && list_any (same_bytes p) (named_same n j)) (names_in f.glyphs)

    called_same : (i : ℕ) → is_called profile full i ≡ is_called profile f i
    called_same i = λ j. list_any (λ n. executes_same i n j) (names_in f.glyphs)

    -- each Subr has the same state
    state_same : (i : ℕ) → subr_state profile full i ≡ subr_state profile f i
    state_same i = elim (same_or_added i) [
      | inl e ↦ λ j. by (called_same i j) (e j)
      | inr a ↦
          ap (state_of_entry profile full i) a.stub
          ∙ ap (λ (b : Bool). cond (not b) None (Some stub))
          (called_same i ∙ (sym (found_any (λ n. executes profile f n i) (names_in f.glyphs)) ∙ ap is_some (quiet i a)))
          ∙ sym (ap (state_of_entry profile f i) a.absent)
    ]
      where
        by : Bool → Option (List ℕ) → Option (List ℕ)
        by b None = None
        by b (Some c) = cond (bytes_eq c stub && not b) None (Some c)

    used_same : used_subrs profile full ≡ used_subrs profile f
    used_same = maps.same_map nat_cmp_total nat_cmp-IsAntisymmetric (used_subrs profile full) (used_subrs profile f)
        (λ i. get-used profile full i ∙ (state_same i ∙ sym (get-used profile f i)))

    -- the states are those that the font had, but for which Subrs are present
    pub states_same : states_of profile full ≡ (shared_of full, (states_of profile f).1)
    states_same = λ j. (
      shared_of full,
      (
        code_states f.encoding,
        (
          names_table f.glyphs (maps.from_entries (map (λ p. (p, name_meaning None)) (flat_map (λ n. named_same n j) (names_in f.glyphs)))),
          numbered (used_same j),
        ),
      ),
    )

-- ---- fonts that lack nothing

-- what is not found below a number is at none of those below it
none_below : {X : Type 0} (value : ℕ → Option X) (n i : ℕ) → first_below value n ≡ None → i < n → value i ≡ None
none_below value zero i none lt = absurd (omega (arith, lt))
none_below value (suc n) i none lt =
    by (nat_lt i n) refl (found_none (λ v. v) (first_below value n) (value n) none) (λ h l. none_below value n i h l)
  where
    by : (b : Bool) → nat_lt i n ≡ b → (first_below value n ≡ None) × (value n ≡ None) → (first_below value n ≡ None → i < n → value i ≡ None) → value i ≡ None
    by true t both sooner = sooner both.0 (ltb-true i n t)
    by false t both sooner = let same : i ≡ n = omega (arith, lt, ltb-false i n t) in ap value same ∙ both.1

-- the indices of fonts are those at which one of them has a Subr
had_listed : (fs : List FontValue) (i : ℕ) → list_any (eq_by_cmp nat_cmp i) (indices_of_all fs) ≡ is_had fs i
had_listed [] i = refl
had_listed (f ∷ fs) i = grind (
  cases,
  list_any-append (eq_by_cmp nat_cmp i) (maps.keys f.subrs) (indices_of_all fs),
  maps.contains_key-keys f.subrs i,
  had_listed fs i,
)

-- the index, with a user if there is one
abbrev told : ℕ → Option (List ℕ) → Option Lack
told i user = option_map (λ n. (i, n)) user

-- a font that lacks nothing executes none of the indices at which it gets stubs
pub unlacking_quiet : (fs : List FontValue) (f : FontValue) → lack_in fs f ≡ None → (i : ℕ) → IsAdded f (indices_of_all fs) i → user_of f i ≡ None
unlacking_quiet fs f none i a =
    by (user_of f i) (sym (λ j. cond (not (is_some (a.absent j)) && had j) (told i (user_of f i)) None)
    ∙ none_below (lack_at fs f) (declared_count f.shell.subrs) i none a.below)
  where
    had : is_had fs i ≡ true
    had = sym (had_listed fs i) ∙ a.listed

    by : (o : Option (List ℕ)) → told i o ≡ None → o ≡ None
    by None h = refl
    by (Some n) h = cc
