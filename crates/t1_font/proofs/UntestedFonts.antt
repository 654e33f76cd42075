-- A font without its test is a font.
use Rattle.std.proofs.Common.{◌≤◌, arith, Option, Some, None}
use Rattle.t1_font.specs.{FontValue.{Shell, SubrsShell, SparseArray, weight}, IsFont.{SubrsFit}}
use Rattle.t1_font.specs.UntestedFonts.{untested_shell, untested_font, UntestedIsFont}
use Rattle.t1_text.proofs.Untested.{untested_fits}

-- ---- the head of a font

-- a font without its test is a font
pub untested_is_font : UntestedIsFont
untested_is_font f h =
    let fits = untested_fits f.shell.head in
    let light : weight (untested_font f) ≤ weight f = omega (arith, fits.short) in
    let g = h.glyphs in
    let p = h.private in (
      record {
        clear = record {
          head_encoding = fits.encoding h.clear.head_encoding;
          head_eexec = fits.eexec h.clear.head_eexec;
          tail_apart = h.clear.tail_apart;
          tail_ends = h.clear.tail_ends;
        };
        private = record {
          iv = p.iv;
          no_subrs = p.no_subrs;
          no_chars = p.no_chars;
          middle_apart = p.middle_apart;
          middle_chars = p.middle_chars;
          middle_subrs = p.middle_subrs;
          tail_apart = p.tail_apart;
          tail_subrs = p.tail_subrs;
          tail_ends = p.tail_ends;
        };
        texts =
            record { head = fits.bytes h.texts.head; clear_tail = h.texts.clear_tail; private = h.texts.private; middle = h.texts.middle; tail = h.texts.tail };
        encoding = h.encoding;
        subrs = subrs_stay f.shell f.shell.subrs f.subrs h.subrs;
        glyphs = record { rd = g.rd; def = g.def; names = g.names; bodies = g.bodies; notdef = g.notdef; few = g.few };
        light = omega (arith, light, h.light);
      },
      light,
    )
  where
    subrs_stay : (s : Shell) (o : Option SubrsShell) (m : SparseArray) → SubrsFit s o m → SubrsFit (untested_shell s) o m
    subrs_stay s None m k = k
    subrs_stay s (Some t) m k = k
