-- Comments, `readonly` and the rules of wide spelling, computed on the definitions.
use Rattle.std.{proofs.Common.{◌≡◌, ℕ, List, [], ◌∷◌, ◌++◌, Some, None, Ok, Err, refl}, specs.Prelude.{codes}}
use Rattle.t1_bytes.specs.White.{gap}
use Rattle.t1_text.specs.{declared.dialect.Spacing.TheVariants.{White, Comments}, declared.dialect.Dialect.{Dialect}, declared.dialect.Rule.{Rule}, Dialect.{white_and_comments, white_in, without}}
use Rattle.t1_text.specs.{Words.{keyword}, Encoding.{encoding_end}}
use Rattle.t1_font.specs.{declared.fault.ReadFault.{ReadFault}, declared.fault.ReadFault.TheVariants.{BadSubrs}}
use Rattle.t1_font.specs.{Reading.{bad_at}, ReadFont.{font_file}, FontValue.{FontValue}, Mends.{needed, mend_by, place_of}}

-- ---- comments (PostScript Language Reference, 3.2.1: up to the next newline or form feed)

one_comment : (white_in Comments).read (codes " %a b\nx") ≡ Some (codes " %a b\n", codes "x")
unfolding white_and_comments
one_comment = refl

-- a `%` in a comment neither ends it nor begins another
percent_in_comment : (white_in Comments).read (codes "%a%b\nx") ≡ Some (codes "%a%b\n", codes "x")
unfolding white_and_comments
percent_in_comment = refl

-- a vertical tab is neither the end of a line nor white space
vertical_tab : (white_in Comments).read (codes "%a" ++ 11 ∷ codes "b\rx") ≡ Some (codes "%a" ++ 11 ∷ codes "b\r", codes "x")
unfolding white_and_comments
vertical_tab = refl

form_feed : (white_in Comments).read (codes "%a" ++ 12 ∷ codes "x") ≡ Some (codes "%a" ++ 12 ∷ [], codes "x")
unfolding white_and_comments
form_feed = refl

-- a comment that no end of a line ends goes to the end of the text
to_the_end : (white_in Comments).read (codes " % a") ≡ Some (codes " % a", [])
unfolding white_and_comments
to_the_end = refl

two_comments : (white_in Comments).read (codes "%a\r\n %b\n/x") ≡ Some (codes "%a\r\n %b\n", codes "/x")
unfolding white_and_comments
two_comments = refl

strictly_none : (white_in White).read (codes " %a\nx") ≡ Some (codes " ", codes "%a\nx")
strictly_none = refl

-- ---- one `readonly`

readonly_once : (encoding_end White).read (codes " readonly def x") ≡ Some (codes "def", codes " x")
unfolding gap encoding_end keyword
readonly_once = refl

readonly_twice : (encoding_end White).read (codes " readonly readonly def x") ≡ None
unfolding gap encoding_end keyword
readonly_twice = refl

-- ---- places: an entry is missing behind white space, and behind a comment where comments may stand

behind_comment : bad_at Comments BadSubrs 20 (codes " %a\n dux") ≡ BadSubrs 17
unfolding white_and_comments
behind_comment = refl

at_comment : bad_at White BadSubrs 20 (codes " %a\n dux") ≡ BadSubrs 13
at_comment = refl

-- ---- rules

-- a rule that a file needs stands beside those that it needs with this rule
kept_beside : (file : List ℕ) (d : Dialect) (r : Rule) (rs : List Rule) (e : ReadFault) → (font_file (without r d) file).read ≡ Err e →
    needed file d (r ∷ rs) ≡ mend_by r (place_of e) ∷ needed file d rs
kept_beside file d r rs e h = rw h refl

-- one that it doesn't need is left out for the others, too
left_out : (file : List ℕ) (d : Dialect) (r : Rule) (rs : List Rule) (f : FontValue) → (font_file (without r d) file).read ≡ Ok f →
    needed file d (r ∷ rs) ≡ needed file (without r d) rs
left_out file d r rs f h = rw h refl
