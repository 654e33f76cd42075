-- New texts by the names of fonts, as code keeps them.
use Rattle.std.specs.{Prelude.{◌≡◌, ℕ, Bool, List, Option, is_some}, Option.{option_map}, Ordering.{nat_cmp}, Cmp.Lexicographic.{slice_cmp}, BTreeMap.{get_by}}
use Rattle.t1_document.specs.{Rewriting.{is_seen}, declared.texts.Texts.{Texts}}

-- the text of a name
abbrev pub text_in : Texts → List ℕ → Option (List ℕ)
text_in t name = option_map (λ text. text.now) (get_by (λ k. slice_cmp nat_cmp name k.now) t.texts)

-- a name has a text
abbrev pub has_text : Texts → List ℕ → Bool
has_text t name = is_some (text_in t name)

-- the names that have texts are these
pub record Sees (t : Texts) (names : List (List ℕ)) : Type 0 where
  pub same : (name : List ℕ) → has_text t name ≡ is_seen names name
