-- The shell of a font, to which tables are put.
use Rattle.std.specs.{Prelude.{◌≡◌, ℕ, List, Option, ⊤}, List.{AllByRecursion}, Coded.{Coded, coded×, coded_option}, FinMap.{entries}}
use Rattle.t1_font.specs.{FontValue.{FontValue, Shell, Encoding, Word, Codes}, Codes.{bytes_code}, FontModel.{shell_code, word_of}, IsFont.{IsFont, IsCode}}

abbrev pub shell_word_code : Coded (Shell × Option (List ℕ))
shell_word_code = coded× shell_code (coded_option bytes_code)

-- a font has this shell
abbrev pub HasFont : Shell → Type 0
HasFont shell = (f : FontValue) × IsFont f × (f.shell ≡ shell)

-- a font has this shell, and this word as its Encoding, or a table where there is no word
abbrev pub IsShellOfFont : Shell → Option (List ℕ) → Type 0
IsShellOfFont shell word = (f : FontValue) × IsFont f × (f.shell ≡ shell) × (word_of f.encoding ≡ word)

-- if it is a table, each of its entries is a code with a name
abbrev pub CodesFit : Encoding → Type 0
CodesFit (Word w) = ⊤
CodesFit (Codes m) = AllByRecursion (λ e. IsCode e.0 e.1) (entries m)
