-- Which glyph executes each Subr of a font, and which names each component that the font lacks.
use Rattle.std.specs.{Prelude.{◌≡◌, ◌<◌, ℕ, Bool, true, false, List, [], ◌∷◌, Option, Some, None, map}, List.{AllByRecursion, find}}
use Rattle.t1_join.specs.Meaning.{of_number}
use Rattle.t1_font.specs.{FontValue.{FontValue, name_cmp, declared_count, names_in}, IsFont.{IsFont}}
use Rattle.t1_algebra.specs.{Interpreter.{same_bytes}, Profile.{profile}, Conflicts.{wants}, Lacks.{user_of}, StateTables.{StatesValue, states_of}}
use Rattle.t1_subset.specs.{declared.references.References.{References}, Differences.{smaller}, declared.state_making.Uses.{Uses}, Users.{user_at}}
use Rattle.std.specs.FinMap as maps

-- the smallest glyph of the font that names this component, if the font lacks it
abbrev pub seeker_of : FontValue → List ℕ → Option (List ℕ)
seeker_of f p = find (λ n. wants profile f n p) (names_in f.glyphs)

-- both are there and have the same bytes
abbrev pub same_charstring : Option (List ℕ) → Option (List ℕ) → Bool
same_charstring None y = false
same_charstring (Some c) None = false
same_charstring (Some c) (Some d) = same_bytes c d

-- ---- in code

-- what was noted are the users of each Subr that the font declares, and the seekers of each component
pub record AreUsesOf (u : Uses) (f : FontValue) : Type 0 where
  pub users : (i : ℕ) → i < declared_count f.shell.subrs → user_at u.users.items i ≡ user_of f i
  pub seekers : (p : List ℕ) → maps.get u.seekers p ≡ seeker_of f p

-- these are the users of each Subr that the font has, and the seekers of each component
pub record AreReferencesOf (c : References) (f : FontValue) : Type 0 where
  pub users : (i : ℕ) → maps.contains_key f.subrs i ≡ true → maps.get c.users (of_number i) ≡ user_of f i
  pub seekers : (p : List ℕ) → maps.get c.seekers p ≡ seeker_of f p

-- another font has the same states but for what it shares, and in it the same glyphs execute each Subr and seek each component
pub record RunAlike (f g : FontValue) : Type 0 where
  pub states : (states_of profile g).1 ≡ (states_of profile f).1
  pub users : (i : ℕ) → user_of g i ≡ user_of f i
  pub seekers : (p : List ℕ) → seeker_of g p ≡ seeker_of f p
  pub count : declared_count g.shell.subrs ≡ declared_count f.shell.subrs

-- the fonts that a list of references belongs to
abbrev pub fonts_of : List References → List FontValue
fonts_of cs = map (λ c. c.font.now) cs

-- each entry of the list is a font with its own references
abbrev pub AreNoted : List References → Type 0
AreNoted cs = AllByRecursion (λ c. IsFont c.font.now × AreReferencesOf c c.font.now) cs

-- the smallest of a name and what is noted in each of a list of references
abbrev pub smallest_from : (References → Option (List ℕ)) → Option (List ℕ) → List References → Option (List ℕ)
smallest_from noted best [] = best
smallest_from noted best (c ∷ cs) = smallest_from noted (smaller name_cmp best (noted c)) cs

-- the smallest of a name and the users of an index in a list of references
abbrev pub user_from : Option (List ℕ) → List References → ℕ → Option (List ℕ)
user_from best cs i = smallest_from (λ c. maps.get c.users (of_number i)) best cs

-- the smallest of a name and the seekers of a component in a list of references
abbrev pub seeker_from : Option (List ℕ) → List References → List ℕ → Option (List ℕ)
seeker_from best cs p = smallest_from (λ c. maps.get c.seekers p) best cs

-- these are a font's references and its states
pub record IsNoted (c : References) (s : StatesValue) : Type 0 where
  pub is_font : IsFont c.font.now
  pub references : AreReferencesOf c c.font.now
  pub states : s ≡ states_of profile c.font.now
