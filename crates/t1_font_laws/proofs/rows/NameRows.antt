-- Heads with another name, computed on the definitions.
use Rattle.std.{proofs.Common.{◌≡◌, List, ℕ, [], None, refl}, specs.Prelude.{codes}}
use Rattle.t1_grammar.specs.Grammar.{first_at}
use Rattle.t1_font.specs.{FontValue.{Shell}, FontNames.{clear_named}}
use Rattle.t1_text.specs.Tags.{name_marker}

-- a shell with these two texts around its Encoding
abbrev shell : List ℕ → List ℕ → Shell
shell head tail = record {
  head = head;
  clear_tail = tail;
  private = [];
  middle = [];
  tail = [];
  len_iv = 4;
  subrs = None;
  glyphs_rd = [];
  glyphs_def = [];
}

-- the first name of the head gives way, whatever follows it
in_head : clear_named (codes "Other") (shell (codes "%! /FontName /Tiny def /FontName /Tiny def") [])
    ≡ (codes "%! /FontName /Other def /FontName /Tiny def", [])
unfolding first_at name_marker
in_head = refl

-- the clear tail keeps its name, beside a name in the head and without one
tail_stays : clear_named (codes "Other") (shell (codes "/FontName/Tiny def") (codes " /FontName /Tiny def"))
    ≡ (codes "/FontName/Other def", codes " /FontName /Tiny def")
unfolding first_at name_marker
tail_stays = refl

tail_alone : clear_named (codes "Other") (shell (codes "%! ") (codes " /FontName /Tiny def")) ≡ (codes "%! ", codes " /FontName /Tiny def")
unfolding first_at name_marker
tail_alone = refl
