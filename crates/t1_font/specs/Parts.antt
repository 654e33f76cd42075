-- Fonts with the shell of another.
use Rattle.std.specs.Prelude.{◌≡◌}
use Rattle.t1_font.specs.{FontValue.{FontValue}, Encodings.{SameKind}}

-- f has the shell of whole, and its kind of Encoding
pub record HasShellOf (f whole : FontValue) : Type 0 where
  pub shell : f.shell ≡ whole.shell
  pub kind : SameKind f.encoding whole.encoding
