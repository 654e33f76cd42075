-- An entry of the table of subroutines or of glyphs: a key, and behind it an encrypted charstring between its words.
use Rattle.std.specs.Prelude.{ℕ, ◌&&◌, nat_le, true, List, map}
use Rattle.t1_grammar.specs.Grammar.{Grammar, pure, ◌>>=◌, ◌>>◌, that, count}
use Rattle.t1_bytes.specs.{Cipher.{plain_of}, White.{white, gap}}
use Rattle.t1_text.specs.Words.{one_white, word, decimal, phrase_of, passes}

-- what stands behind a key: the word before the encrypted bytes, these, and the phrase after them
pub record Body : Type 0 where
  pub rd : List ℕ
  pub bytes : List ℕ
  pub phrase : List ℕ

-- a key, and what stands behind it
pub record Entry (K : Type 0) : Type 0 where
  pub key : K
  pub body : Body

-- how many bytes a charstring has at most, its lead bytes among them
abbrev pub charstring_limit : ℕ
charstring_limit = 65535

-- the length of a charstring with lead bytes
unfoldable pub length_from : ℕ → Grammar ℕ
length_from iv = that (λ n. nat_le iv n && nat_le n charstring_limit) decimal

-- what stands behind a key in a table with this lenIV
unfoldable pub body : ℕ → Grammar Body
body iv = do
  gap
  len ← length_from iv
  gap
  rd ← word
  one_white
  bytes ← count len
  white
  phrase ← phrase_of (passes true)
  pure (record { rd = rd; bytes = bytes; phrase = phrase })

-- an entry of a table with this lenIV, whose keys are spelled by a grammar
unfoldable pub entry : {K : Type 0} → Grammar K → ℕ → Grammar (Entry K)
entry key iv = do
  k ← key
  b ← body iv
  pure (record { key = k; body = b })

-- each entry with its plain charstring
abbrev pub plain_entries : {K : Type 0} → ℕ → List (Entry K) → List (K × List ℕ)
plain_entries len_iv es = map (λ e. (e.key, plain_of len_iv e.body.bytes)) es
