-- Fonts without the test whether they were loaded before.
use Rattle.std.specs.Prelude.{◌≤◌}
use Rattle.t1_font.specs.{FontValue.{FontValue, Shell, weight}, IsFont.{IsFont}}
use Rattle.t1_text.specs.FontTest.{untested}

-- ---- heads without it

-- a shell without the test in its head
abbrev pub untested_shell : Shell → Shell
untested_shell s = record {
  head = untested s.head;
  clear_tail = s.clear_tail;
  private = s.private;
  middle = s.middle;
  tail = s.tail;
  len_iv = s.len_iv;
  subrs = s.subrs;
  glyphs_rd = s.glyphs_rd;
  glyphs_def = s.glyphs_def;
}

-- a font of that shell
abbrev pub untested_font : FontValue → FontValue
untested_font f = record { shell = untested_shell f.shell; encoding = f.encoding; subrs = f.subrs; glyphs = f.glyphs }

-- ---- laws, each the contract of a function in `laws`

-- a font without the test in its head is a font, and weighs no more
abbrev pub UntestedIsFont : Type 0
UntestedIsFont = (f : FontValue) → IsFont f → IsFont (untested_font f) × (weight (untested_font f) ≤ weight f)
