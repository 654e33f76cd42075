-- What follows for a glyph that has the charstring of the one that was run last.
use Rattle.std.proofs.Common.{◌≡◌, ℕ, true, true≢false, List, [], Option, Some, None, Bor, IfSome, unwrap_or, option_map, map, sym, subst, arith}
use Rattle.std.specs.{Cmp.{nat_cmp_total}, Cmp.Lexicographic.{nat_list_cmp_total}, FinSet.{nat_cmp-IsAntisymmetric}}
use Rattle.t1_run.specs.Budgets.{HasFewer, Spends}
use Rattle.t1_font.specs.FontValue.{FontValue}
use Rattle.t1_algebra.{specs.{Interpreter.{Numbers}, Keep.{charstring, components}, Profile.{profile}}, proofs.Sets.{cases, tied, name_same}}
use Rattle.t1_subset.specs.{Budgets.{glyph_tokens}, References.{same_charstring}, LastRuns.{RunsTo, WasRun}, declared.last_runs.LastRun.{LastRun}}
use Rattle.std.specs.FinMap as maps
use Rattle.std.specs.FinSet as sets

-- a set that has all of another is their union
union_again : (s t : Numbers) → sets.union (sets.union s t) t ≡ sets.union s t
union_again s t = sets.same_set nat_cmp_total nat_cmp-IsAntisymmetric _ _
    (λ q. grind (cases, sets.contains-union nat_cmp_total (sets.union s t) t q, sets.contains-union nat_cmp_total s t q))

-- what is so of the charstring of the last glyph is so of one with the same charstring
same_again : (P : List ℕ → Type 0) (last : Option (Bor (List ℕ))) (glyph : Option (List ℕ)) →
    same_charstring (option_map (λ c. c.now) last) glyph ≡ true → IfSome last (λ c. P c.now) → P (unwrap_or glyph [])
same_again P None glyph again h = absurd (true≢false (sym again))
same_again P (Some c) None again h = absurd (true≢false (sym again))
same_again P (Some c) (Some d) again h = subst P (tied nat_list_cmp_total name_same c.now d again) h

-- what is so of a glyph's charstring is so of the glyph, if there is one
of_last : (P : List ℕ → Type 0) (last : Option (Bor (List ℕ))) → P (unwrap_or (option_map (λ c. c.now) last) []) → IfSome last (λ c. P c.now)
of_last P None h = tt
of_last P (Some c) h = h

module _ (f : FontValue) (n : List ℕ) (glyph : Option (Bor (List ℕ))) (is : option_map (λ c. c.now) glyph ≡ maps.get f.glyphs n) where
  -- what was noted of the last run is so of a glyph that has its charstring
  pub noted_again : (calls : Numbers) (left : Option ℕ) (r : LastRun) →
      same_charstring (option_map (λ c. c.now) r.charstring) (option_map (λ c. c.now) glyph) ≡ true → WasRun f calls left r →
      RunsTo f calls left (map (λ s. s.now) r.components.items) r.tokens (charstring f n)
  noted_again calls left r again h =
      let P : List ℕ → Type 0 = RunsTo f calls left (map (λ s. s.now) r.components.items) r.tokens in
      subst (λ (x : Option (List ℕ)). P (unwrap_or x [])) is (same_again P r.charstring (option_map (λ c. c.now) glyph) again h)

  -- what is so of a glyph is noted of its charstring, if it has one
  pub noted_now : (P : List ℕ → Type 0) → P (charstring f n) → IfSome glyph (λ c. P c.now)
  noted_now P h = of_last P glyph (subst (λ (x : Option (List ℕ)). P (unwrap_or x [])) (sym is) h)

-- before a glyph was run nothing is noted
pub none_ran : (f : FontValue) (calls : Numbers) (left : Option ℕ) (r : LastRun) → r.charstring ≡ None → WasRun f calls left r
none_ran f calls left r none = subst
    (λ (x : Option (Bor (List ℕ))). IfSome x (λ c. RunsTo f calls left (map (λ s. s.now) r.components.items) r.tokens c.now)) (sym none) tt

-- ---- what is taken once more

module _ (tokens noted : ℕ) (old new : Option ℕ) where
  pub taken_again : IfSome old (λ _. noted ≡ tokens) → Spends noted old new → Spends tokens old new
  taken_again = by old new
    where
      by : (old new : Option ℕ) → IfSome old (λ _. noted ≡ tokens) → Spends noted old new → Spends tokens old new
      by None None w h = h
      by None (Some new) w h = h
      by (Some old) None w h = h
      by (Some old) (Some new) w h = omega (arith, w, h)

  pub refused_again : IfSome old (λ _. noted ≡ tokens) → HasFewer old noted → HasFewer old tokens
  refused_again = by old
    where
      by : (old : Option ℕ) → IfSome old (λ _. noted ≡ tokens) → HasFewer old noted → HasFewer old tokens
      by None w h = h
      by (Some old) w h = omega (arith, w, h)

  pub within_again : Spends noted old new → IfSome old (λ _. noted ≡ tokens) → IfSome new (λ _. noted ≡ tokens)
  within_again = by old new
    where
      by : (old new : Option ℕ) → Spends noted old new → IfSome old (λ _. noted ≡ tokens) → IfSome new (λ _. noted ≡ tokens)
      by old None h w = tt
      by None (Some new) h w = absurd h
      by (Some old) (Some new) h w = w

module _ (f : FontValue) (n : List ℕ) (calls : Numbers) (named : List (List ℕ)) (tokens : ℕ) where
  -- a glyph that was run, which had its calls added and its tokens taken
  pub ran : (left : Option ℕ) (before : Numbers) → named ≡ components profile f.subrs (charstring f n) →
      calls ≡ sets.union before (profile.exec f.subrs (charstring f n)) →
      IfSome left (λ _. tokens ≡ glyph_tokens f n) → RunsTo f calls left named tokens (charstring f n)
  unfolding glyph_tokens
  ran left before is more within = record {
    names = is;
    executes = subst (λ (s : Numbers). sets.union s (profile.exec f.subrs (charstring f n)) ≡ s) (sym more)
        (union_again before (profile.exec f.subrs (charstring f n)));
    takes = within;
  }

  -- what is known of the last run is known of a glyph that comes to the same
  pub runs_within : (left : Option ℕ) → RunsTo f calls left named tokens (charstring f n) → IfSome left (λ _. tokens ≡ glyph_tokens f n)
  unfolding glyph_tokens
  runs_within left h = h.takes

  -- and still once that was taken again
  pub runs_on : (c : List ℕ) (old new : Option ℕ) → Spends tokens old new → RunsTo f calls old named tokens c → RunsTo f calls new named tokens c
  runs_on c old new h r = record {
    names = r.names;
    executes = r.executes;
    takes = within_again _ tokens old new h r.takes;
  }
