-- Two fonts have no conflict exactly if they join, and they have the same conflict in both orders.
use Rattle.std.proofs.{Common.{arith, ◌≡◌, ◌↔◌, ℕ, true, false, cond, not, ◌&&◌, ◌||◌, List, [], get_or, ap, Ordering, Option, Some, None, unwrap_or, nat_le}, Math.Bool.{or_comm}}
use Rattle.std.proofs.{lemmas.Bool.{leb-true, le-leb, and_from}, lemmas.List.Folds.{list_any_none}}
use Rattle.t1_font.specs.FontValue.{FontValue, Encoding, Word, Codes, weight, weight_limit, count_limit, names_in}
use Rattle.t1_algebra.specs.Conflicts.{ShellDiffers, CodeDiffers, GlyphDiffers, LacksComponent, SubrDiffers, OverLimit, keys_of_both, agrees, codes_of_both, wants, code_clashes, glyph_clashes}
use Rattle.t1_algebra.specs.Conflicts.{glyphs_of_both, wanted_by, component_clashes, subr_clashes, used_by, is_within, shell_conflict, code_conflict, glyph_conflict, component_conflict}
use Rattle.t1_algebra.specs.{Conflicts.{subr_conflict, states_conflict, conflict}, Searches.{members, smallest, found}, Shared.{shared_of}, Keep.{has}}
use Rattle.t1_algebra.specs.States.{KeepsLimits, Agree, calls_for, code_state, subr_state, joined_font, Compatible, Join, executes}
use Rattle.t1_algebra.proofs.{Words.{list_any, IsTotalOrder, nat_cmp_total, first_so, second_so, nat_list_cmp_total, IsAntisymmetric, nat_cmp-IsAntisymmetric, Interpreter, same_bytes}, Uses.{sought}}
use Rattle.t1_algebra.proofs.{Sets.{name_same, any_at, cases_Option, cases}, JoinedStates.{font_back, glyph_agree}, Searching.{passes_none, found_none, smallest_none}}
use Rattle.t1_algebra.proofs.{Shares.{swaps, bytes_decide, shared_so, no_part_differs, differing_back, sharing}, Maps.{in_both, both_back}}
use Rattle.std.specs.FinMap as maps

module _ (x y : Option (List ℕ)) where
  -- states that join don't fail the test
  no_clash : Agree x y → not (agrees x y) ≡ false
  no_clash h = grind (cases, bytes_decide.self)

  -- the test is the same in both orders
  pub agrees_swap : agrees x y ≡ agrees y x
  agrees_swap = grind (cases, swaps same_bytes bytes_decide)

-- if no key of two maps has states that clash, and keys that the second lacks have no state, all states agree
all_agree : {K : Type 0} {R : K → K → Ordering} (o : IsTotalOrder R) (same : IsAntisymmetric R) (a b : maps.FinMap R (List ℕ)) (x y : K → Option (List ℕ)) →
    smallest (λ k. not (agrees (x k) (y k))) (keys_of_both a b) ≡ None
    → (k : K) → (maps.contains_key b k ≡ false → y k ≡ None) → Agree (x k) (y k)
all_agree o same a b x y h k absent =
    grind (cases, absent, in_both o same a b k, smallest_none o same (λ k. not (agrees (x k) (y k))) (keys_of_both a b) k h, bytes_decide.so)

-- without a conflict of codes, the names of each code agree
codes_agree : (d e : Encoding) → smallest (λ c. not (agrees (code_state d c) (code_state e c))) (codes_of_both d e) ≡ None → (c : ℕ) →
    Agree (code_state d c) (code_state e c)
codes_agree (Word v) e h c = tt
codes_agree (Codes s) (Word w) h c = grind cases
codes_agree (Codes s) (Codes t) h c = all_agree nat_cmp_total nat_cmp-IsAntisymmetric s t (maps.get s) (maps.get t) h c (λ e. grind (cases, e))

-- ---- from no conflict to the join

module _ {O : Type 0} (m : Interpreter O) (f g : FontValue) where
  -- without a conflict of components, no glyph calls for one that its font lacks and the other has
  none_wanted : component_conflict m f g ≡ None → (p n : List ℕ) → (has f p || has g p) ≡ true → wanted_by m f g p n ≡ false
  none_wanted h p n there =
      let any = any_at nat_list_cmp_total name_same (wanted_by m f g p) n (members (glyphs_of_both f g)) in
      let named = in_both nat_list_cmp_total name_same f.glyphs g.glyphs in
      grind (
        cases,
        there,
        any,
        maps.contains_key-keys (glyphs_of_both f g) n,
        named n,
        named p,
        smallest_none nat_list_cmp_total name_same (component_clashes m f g) (glyphs_of_both f g) p h,
      )

  -- without a conflict of states, the fonts are compatible
  pub compatible : states_conflict m f g ≡ None → Compatible m f g
  compatible h =
      let a = found_none ShellDiffers (shell_conflict f g) _ h in
      let b = found_none CodeDiffers (code_conflict f g) _ a.1 in
      let c = found_none GlyphDiffers (glyph_conflict f g) _ b.1 in
      let d = found_none (λ p. LacksComponent (unwrap_or (smallest (wanted_by m f g p) (glyphs_of_both f g)) []) p) (component_conflict m f g) _ c.1 in
      let e = found_none (λ i. SubrDiffers i (smallest (used_by m f g i) (glyphs_of_both f g))) (subr_conflict m f g) None d.1 in
      let none = none_wanted d.0 in
      let left = λ (p : List ℕ) (lacks : has f p ≡ false) (is : has g p ≡ true).
      list_any_none (λ n. calls_for m f n p) (names_in f.glyphs) (λ k q l. grind (cases, lacks, is, none p (get_or (names_in f.glyphs) k q))) in
      let right = λ (p : List ℕ) (is : has f p ≡ true) (lacks : has g p ≡ false).
      list_any_none (λ n. calls_for m g n p) (names_in g.glyphs) (λ k q l. grind (cases, is, lacks, none p (get_or (names_in g.glyphs) k q))) in
      let same = (sharing f g).1 (shared_so (shared_of f) (shared_of g) a.0) in
      record {
        shells = same.shells;
        present = same.present;
        kinds = same.kinds;
        subrs = λ i. all_agree nat_cmp_total nat_cmp-IsAntisymmetric f.subrs g.subrs (subr_state m f) (subr_state m g) e.0 i (λ k. grind (cases, k));
        names = λ n. grind (
          cases,
          left n,
          right n,
          all_agree nat_list_cmp_total name_same f.glyphs g.glyphs (maps.get f.glyphs) (maps.get g.glyphs) c.0 n (λ k. grind (cases, k)),
        );
        codes = codes_agree f.encoding g.encoding b.0;
      }

-- ---- from the join to no conflict

module _ {O : Type 0} (m : Interpreter O) (f g : FontValue) (c : Compatible m f g) where
  -- compatible fonts have no conflict of states
  no_states_conflict : states_conflict m f g ≡ None
  no_states_conflict =
      let shells = no_part_differs (shared_of f) (shared_of g) ((sharing f g).0 (record { shells = c.shells; present = c.present; kinds = c.kinds })) in
      let codes = passes_none (code_clashes f g) (members (codes_of_both f.encoding g.encoding))
      (λ k. no_clash (code_state f.encoding k) (code_state g.encoding k) (c.codes k)) in
      let glyphs =
      passes_none (glyph_clashes f g) (members (glyphs_of_both f g)) (λ n. no_clash (maps.get f.glyphs n) (maps.get g.glyphs n) (glyph_agree m f g c n)) in
      let none = λ (p : List ℕ) (there : (has f p || has g p) ≡ true). list_any_none (wanted_by m f g p) (members (glyphs_of_both f g)) (λ k d l.
      let n = get_or (members (glyphs_of_both f g)) k d in
      grind (cases, there, c.names p, sought m f p n, sought m g p n)) in
      let components = passes_none (component_clashes m f g) (members (glyphs_of_both f g)) (λ p. grind (cases, none p)) in
      let subrs = passes_none (subr_clashes m f g) (members (keys_of_both f.subrs g.subrs)) (λ i. no_clash (subr_state m f i) (subr_state m g i) (c.subrs i)) in
      simp (shells, codes, glyphs, components, subrs)

-- the test of the limits says that the joined font is within them
pub within_so : {O : Type 0} (m : Interpreter O) (f g : FontValue) → is_within m f g ≡ true → KeepsLimits (joined_font m f g)
within_so m f g h = record { weight = leb-true _ weight_limit (first_so _ _ h); glyphs = leb-true _ count_limit (second_so _ _ h) }

-- two fonts have no conflict exactly if they join
pub no_conflict : {O : Type 0} (m : Interpreter O) (f g : FontValue) → (conflict m f g ≡ None) ↔ Join m f g
no_conflict m f g = (
  λ h. let r = found_none (λ c. c) (states_conflict m f g) (cond (is_within m f g) None (Some OverLimit)) h in
      record { states = compatible m f g r.0; within = within_so m f g (grind (cases, r.1)) },
  λ j. (λ i. found (λ c. c) (no_states_conflict m f g j.states i)
      (cond (and_from _ _ (le-leb _ _ j.within.weight) (le-leb _ _ j.within.glyphs) i) None (Some OverLimit))),
)

-- ---- both orders

module _ {O : Type 0} (m : Interpreter O) (f g : FontValue) where
  -- the lowest conflict of states is the same in both orders
  states_conflict_back : states_conflict m f g ≡ states_conflict m g f
  states_conflict_back =
      let codes : codes_of_both f.encoding g.encoding ≡ codes_of_both g.encoding f.encoding =
      grind (cases, both_back nat_cmp_total nat_cmp-IsAntisymmetric {X = List ℕ}) in
      let names = both_back nat_list_cmp_total name_same f.glyphs g.glyphs in
      let wanted = λ (p n : List ℕ). or_comm (wants m f n p) (wants m g n p) in
      λ i.
      found ShellDiffers (differing_back (shared_of f) (shared_of g) i)
      (found CodeDiffers (smallest (λ c. not (agrees_swap (code_state f.encoding c) (code_state g.encoding c) i)) (codes i))
      (found GlyphDiffers (smallest (λ n. not (agrees_swap (maps.get f.glyphs n) (maps.get g.glyphs n) i)) (names i))
      (found (λ p. LacksComponent (unwrap_or (smallest (λ n. wanted p n i) (names i)) []) p)
      (smallest (λ p. or_comm (has f p) (has g p) i && list_any (λ n. wanted p n i) (members (names i))) (names i))
      (found (λ k. SubrDiffers k (smallest (λ n. or_comm (executes m f n k) (executes m g n k) i) (names i)))
      (smallest (λ k. not (agrees_swap (subr_state m f k) (subr_state m g k) i)) (both_back nat_cmp_total nat_cmp-IsAntisymmetric f.subrs g.subrs i)) None))))

  -- the lowest conflict is the same in both orders
  pub conflict_back : conflict m f g ≡ conflict m g f
  conflict_back = grind (
    arith,
    cases_Option (states_conflict m f g),
    states_conflict_back,
    λ (h : states_conflict m f g ≡ None).
        ap (λ j. nat_le (weight j) weight_limit && nat_le (maps.len j.glyphs) count_limit) (font_back m f g (compatible m f g h)),
  )
