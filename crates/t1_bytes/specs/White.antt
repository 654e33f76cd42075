-- White space between the words of a font program: the white-space bytes of the PostScript language.
use Rattle.std.specs.Prelude.{ℕ, ◌==◌, ◌||◌, nat_lt, Bool, List, length}
use Rattle.t1_grammar.specs.Grammar.{Grammar, that, run}

-- a null, a tab, LF, a form feed, CR or a blank
abbrev pub is_white : ℕ → Bool
is_white b = b == 0 || b == 9 || b == 10 || b == 12 || b == 13 || b == 32

-- white space, as far as it goes; it may be none
abbrev pub white : Grammar (List ℕ)
white = run is_white

-- there is at least one byte
abbrev pub has_bytes : List ℕ → Bool
has_bytes bytes = nat_lt 0 (length bytes)

-- white space of one byte or more, as far as it goes
unfoldable pub gap : Grammar (List ℕ)
gap = that has_bytes white
