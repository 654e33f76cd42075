-- New texts of fonts.
use Rattle.std.specs.{Prelude.{ℕ, List, Some, None, if◌then◌else◌}, Str.{bytes_eq}}
use Rattle.t1_document.specs.Rewriting.{NewTexts}

-- a text for one name alone
abbrev pub only : List ℕ → List ℕ → NewTexts
only name text other = if bytes_eq name other then Some text else None
