-- Families of names: those that are equal without their tags.
use Rattle.std.specs.Prelude.{ℕ, List, if◌then◌else◌}
use Rattle.t1_bytes.specs.White.{has_bytes}
use Rattle.t1_text.specs.Tags.{untagged}

-- a name without the tags that it begins with, or the name itself where nothing would be left
abbrev pub family : List ℕ → List ℕ
family name = if has_bytes (untagged name) then untagged name else name
