-- What an iterator over the tokens of a charstring has left.
use Rattle.std.specs.{Prelude.{◌≡◌, ℕ, List, Option, drop}, Iterator.{YieldsFirst}}
use Rattle.t1_char.specs.{declared.token.Token.{Token}, declared.charstring.Tokens.{Tokens}, Tokens.{tokens}}

-- The charstring whose tokens an iterator gives.
abbrev pub charstring_of : Tokens → List ℕ
charstring_of t = t.charstring.now

-- The tokens of the charstring from the place that the iterator has reached.
abbrev pub tokens_left : Tokens → List Token
tokens_left t = tokens (drop t.offset t.charstring.now)

-- The first of the tokens that are left is given, where there is one, and the charstring stays.
abbrev pub GivesNext : Tokens → Option Token → Tokens → Type 0
GivesNext old token new = YieldsFirst tokens_left old token new × (charstring_of new ≡ charstring_of old)
