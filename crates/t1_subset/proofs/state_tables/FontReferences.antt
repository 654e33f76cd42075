-- The smallest glyphs that execute a Subr or seek a component, as the code notes them, and in a join.
use Rattle.std.proofs.{lemmas.Simd.{map-map}, Common.{arith, ◌≡◌, ℕ, Bool, true, false, not, cond, ◌&&◌, ◌||◌, List, [], ◌∷◌, ◌++◌, map, refl, sym, ◌∙◌, ap, Option, Some, None, is_some}}
use Rattle.std.specs.{List.{list_any, find}, Cmp.{nat_cmp_total, second_so}, Cmp.Lexicographic.{nat_list_cmp_total}}
use Rattle.t1_join.specs.Meaning.{of_number}
use Rattle.t1_font.{specs.{Maps.{merged}, FontValue.{FontValue, CharStrings, name_cmp, names_in}}, proofs.MapLemmas.{entries-map_values}}
use Rattle.t1_algebra.specs.{Interpreter.{same_bytes}, Keep.{has, components, charstring}, Profile.{profile}}
use Rattle.t1_algebra.specs.{States.{joined_option, is_called, is_sought, joined_font, Compatible, executes, calls_for}, Lacks.{user_of}}
use Rattle.t1_algebra.specs.{Conflicts.{keys_of_both, wants, wanted_by, used_by, glyphs_of_both}, Searches.{smallest, members}}
use Rattle.t1_algebra.proofs.{Subsets.{glyph_in_join}, JoinedStates.{present_joined, executes_join, calls_join}, Uses.{executing_there, naming_there, sought}, Sets.{name_same, clash, tied, cases}}
use Rattle.t1_subset.specs.{declared.references.References.{References}, Differences.{smaller}}
use Rattle.t1_subset.specs.{References.{same_charstring, seeker_of, smallest_from, user_from, seeker_from, AreReferencesOf}, Clashes.{AreReferences}}
use Rattle.t1_subset.proofs.{closing.Runs.{calls_by, no_calls, no_components}, state_tables.LowestKeys.{smaller_first}}
use Rattle.std.specs.FinMap as maps
use Rattle.std.specs.FinSet as sets

-- ---- the first of some names

module _ {K : Type 0} where
  -- some element passes if a search finds one
  pub any_first : (p : K → Bool) (ks : List K) → list_any p ks ≡ is_some (find p ks)
  any_first p [] = refl
  any_first p (k ∷ ks) = elim (p k) as (λ b. (b || list_any p ks) ≡ is_some (cond b (Some k) (find p ks))) [ true ↦ refl | false ↦ any_first p ks ]

  any_and : (b : Bool) (p : K → Bool) (ks : List K) → list_any (λ k. b && p k) ks ≡ (b && list_any p ks)
  any_and true p ks = refl
  any_and false p [] = refl
  any_and false p (k ∷ ks) = any_and false p ks

-- ---- noting the names of a list, one by one

-- x is the first of all names that passes, or will be it once the names that are left are noted; and some name is noted if the last one passed
pub record IsNoting (p : List ℕ → Bool) (x goal : Option (List ℕ)) (last : Bool) (left : List (List ℕ)) : Type 0 where
  pub first : joined_option x (find p left) ≡ goal
  pub known : last ≡ true → is_some x ≡ true

module _ (p : List ℕ → Bool) where
  -- before any name is noted, all are left
  pub noting_starts : (x : Option (List ℕ)) (b : Bool) (left all : List (List ℕ)) → x ≡ None → b ≡ false → left ≡ all → IsNoting p x (find p all) b left
  noting_starts x b left all none last e = record { first = λ i. joined_option (none i) (find p (e i)); known = λ h. clash b h last }

  module _ (x goal : Option (List ℕ)) (b : Bool) (n : List ℕ) (names left : List (List ℕ)) (is : names ≡ n ∷ left) (h : IsNoting p x goal b names) where
    -- the next name need not be noted if it passes as the last one did
    pub noting_again : p n ≡ b → IsNoting p x goal b left
    noting_again same = record { first = grind (cases, is, h.first, h.known, same); known = h.known }

    -- after the next name is noted, those after it are left
    pub noting_next : (y : Option (List ℕ)) (c : Bool) → y ≡ joined_option x (cond (p n) (Some n) None) → c ≡ p n → IsNoting p y goal c left
    noting_next y c e last = record { first = grind (cases, is, h.first, e); known = grind (cases, e, last) }

  -- when no name is left, what is noted is what is found
  pub noting_ends : (x goal : Option (List ℕ)) (b : Bool) (left : List (List ℕ)) → left ≡ [] → IsNoting p x goal b left → x ≡ goal
  noting_ends x goal b left none h = grind (cases, none, h.first)

-- charstrings with the same bytes are the same
pub again_same : (x y : Option (List ℕ)) → same_charstring x y ≡ true → x ≡ y
again_same x y h = grind (arith, tied nat_list_cmp_total name_same)

-- ---- the glyphs of one font

module _ (f : FontValue) where
  -- what a glyph's run executes is what the glyph executes
  pub executes_so : (n : List ℕ) (i : ℕ) → sets.contains (calls_by f n) i ≡ executes profile f n i
  executes_so n i = let none = no_calls f n in let nothing = sets.contains-from_list nat_cmp_total [] i in grind (arith, none, nothing)

  -- what a glyph's run names is what the glyph calls for
  pub calls_so : (n p : List ℕ) → list_any (same_bytes p) (components profile f.subrs (charstring f n)) ≡ calls_for profile f n p
  calls_so n p = let none = no_components f n in grind (arith, none)

  -- an index is called if it has a user
  pub called_is : (i : ℕ) → is_called profile f i ≡ is_some (user_of f i)
  called_is i = any_first (λ n. executes profile f n i) (names_in f.glyphs)

  -- a component has a seeker if the font lacks and seeks it
  pub sought_is : (p : List ℕ) → is_some (seeker_of f p) ≡ (not (has f p) && is_sought profile f p)
  sought_is p = sym (any_first (λ n. wants profile f n p) (names_in f.glyphs)) ∙ any_and (not (has f p)) (λ n. calls_for profile f n p) (names_in f.glyphs)

-- ---- two fonts

module _ (f g : FontValue) where
  -- the smaller of the users in two fonts is the smallest glyph of both that executes the index
  pub smallest_user : (i : ℕ) → smaller name_cmp (user_of f i) (user_of g i) ≡ smallest (used_by profile f g i) (glyphs_of_both f g)
  smallest_user i = smaller_first nat_list_cmp_total name_same (λ n. executes profile f n i) (λ n. executes profile g n i) f.glyphs g.glyphs
      (λ n h. executing_there profile f i (maps.get f.glyphs n) h) (λ n h. executing_there profile g i (maps.get g.glyphs n) h)

  -- the smaller of the seekers in two fonts is the smallest glyph of both that wants the component
  pub smallest_seeker : (p : List ℕ) → smaller name_cmp (seeker_of f p) (seeker_of g p) ≡ smallest (wanted_by profile f g p) (glyphs_of_both f g)
  smallest_seeker p = smaller_first nat_list_cmp_total name_same (λ n. wants profile f n p) (λ n. wants profile g n p) f.glyphs g.glyphs
      (λ n h. naming_there profile f p (maps.get f.glyphs n) (second_so (not (has f p)) (calls_for profile f n p) h)) (λ n h.
      naming_there profile g p (maps.get g.glyphs n) (second_so (not (has g p)) (calls_for profile g n p) h))

-- the names of merged maps are the keys of both
names_of_both : (a b : CharStrings) → names_in (merged a b) ≡ members (keys_of_both a b)
names_of_both a b = sym (ap (map (λ e. e.0)) (entries-map_values nat_list_cmp_total name_same (λ k v. 0) (merged a b))
    ∙ map-map (λ (e : List ℕ × ℕ). e.0) (λ (e : List ℕ × List ℕ). (e.0, 0)) (maps.entries (merged a b)))

-- ---- the glyphs of a join

module _ (f g : FontValue) (c : Compatible profile f g) where
  abbrev both : FontValue
  both = joined_font profile f g

  -- a glyph of the join wants a component if it does so in one of the fonts
  wants_join : (p n : List ℕ) → wants profile both n p ≡ wanted_by profile f g p n
  wants_join p n = grind (cases, glyph_in_join profile f g p, calls_join profile f g c p n, c.names p, sought profile f p n, sought profile g p n)

  -- the user of an index in the join is the smaller of those in the fonts
  pub user_join : (i : ℕ) → user_of both i ≡ smaller name_cmp (user_of f i) (user_of g i)
  user_join i = (λ k. find (λ n. executes_join profile f g c i n k) (names_in both.glyphs))
      ∙ ap (find (used_by profile f g i)) (names_of_both f.glyphs g.glyphs) ∙ sym (smallest_user f g i)

  -- the seeker of a component in the join is the smaller of those in the fonts
  pub seeker_join : (p : List ℕ) → seeker_of both p ≡ smaller name_cmp (seeker_of f p) (seeker_of g p)
  seeker_join p = (λ k. find (λ n. wants_join p n k) (names_in both.glyphs))
      ∙ ap (find (wanted_by profile f g p)) (names_of_both f.glyphs g.glyphs) ∙ sym (smallest_seeker f g p)

-- ---- the references of some fonts

-- the references of some fonts are together those of the font that the fonts come to
pub record ReferencesSoFar (cs : List References) (f : FontValue) : Type 0 where
  pub users : (i : ℕ) → maps.contains_key f.subrs i ≡ true → user_from None cs i ≡ user_of f i
  pub seekers : (p : List ℕ) → seeker_from None cs p ≡ seeker_of f p

-- the smallest among references with one more font is the smaller of two
smallest_last : (noted : References → Option (List ℕ)) (best : Option (List ℕ)) (cs : List References) (c : References) →
    smallest_from noted best (cs ++ c ∷ []) ≡ smaller name_cmp (smallest_from noted best cs) (noted c)
smallest_last noted best [] c = refl
smallest_last noted best (d ∷ cs) c = smallest_last noted (smaller name_cmp best (noted d)) cs c

-- the references of one font are those of the font that it comes to
pub first_references : (c : References) (f : FontValue) → AreReferencesOf c f → ReferencesSoFar (c ∷ []) f
first_references c f h = record { users = h.users; seekers = h.seekers }

module _ (f g : FontValue) (cs : List References) (d : References) (h : ReferencesSoFar cs f) (k : AreReferencesOf d g) where
  user_more : (i : ℕ) → maps.contains_key f.subrs i ≡ true → maps.contains_key g.subrs i ≡ true →
      user_from None (cs ++ d ∷ []) i ≡ smaller name_cmp (user_of f i) (user_of g i)
  user_more i l m = smallest_last (λ c. maps.get c.users (of_number i)) None cs d ∙ (λ t. smaller name_cmp (h.users i l t) (k.users i m t))

  seeker_more : (p : List ℕ) → seeker_from None (cs ++ d ∷ []) p ≡ smaller name_cmp (seeker_of f p) (seeker_of g p)
  seeker_more p = smallest_last (λ c. maps.get c.seekers p) None cs d ∙ (λ t. smaller name_cmp (h.seekers p t) (k.seekers p t))

  -- the references so far and those of the next font are the references of both
  pub both_callers : AreReferences (cs ++ d ∷ []) f g
  both_callers = record { users = λ i l m. user_more i l m ∙ smallest_user f g i; seekers = λ p. seeker_more p ∙ smallest_seeker f g p }

  -- the references so far and those of the next font are together those of the join
  pub more_references : Compatible profile f g → ReferencesSoFar (cs ++ d ∷ []) (joined_font profile f g)
  more_references c = record {
    users = λ i l. let there = sym (present_joined profile f g i) ∙ l in user_more i there (sym (c.present i) ∙ there) ∙ sym (user_join f g c i);
    seekers = λ p. seeker_more p ∙ sym (seeker_join f g c p);
  }
