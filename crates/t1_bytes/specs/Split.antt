-- The split of a flat text, at the end of its clear text (Adobe Type 1 Font Format 1.1, chapter 7).
use Rattle.std.specs.{Prelude.{◌≡◌, ℕ, ◌-◌, List, ◌++◌, length, drop, Result}, Global.{Vec}}
use Rattle.t1_grammar.specs.{Grammar.{first, AtFront, NotAtFront, Lacks}, Formats.{Format, give, ◌>>=◌, sought, wanted}}
use Rattle.t1_bytes.specs.{declared.fault.BytesFault.{BytesFault}, declared.fault.BytesFault.TheVariants.{BadSegment, NoEexec, ShortCipher, Memory}, declared.eexec.Cipher.{Cipher}}
use Rattle.t1_bytes.specs.{declared.eexec.Cipher.TheVariants.{Last, Spelled}, Eexec.{eexec_marker, cipher_text}}

-- ---- by its parts

-- A flat text is split at an offset: so many bytes are its clear text, which ends with the first marker, and what follows begins with this cipher.
pub record IsSplit (flat : List ℕ) (at : ℕ) (cipher : List ℕ) : Type 0 where
  pub clear : List ℕ
  pub after : List ℕ
  pub rest : List ℕ
  pub marker : List ℕ × List ℕ
  pub parts : flat ≡ clear ++ after
  pub place : at ≡ length clear
  pub ends : (first eexec_marker).Spells marker clear after
  pub secret : AtFront cipher_text after (cipher, rest)

-- no cipher of four bytes follows the first marker
pub record LacksCipher (flat : List ℕ) : Type 0 where
  pub marker : List ℕ × List ℕ
  pub after : List ℕ
  pub ends : AtFront (first eexec_marker) flat (marker, after)
  pub short : NotAtFront cipher_text after

-- Why a flat text isn't split: it has no marker, or too short a cipher follows the first one. The other faults are no reason of a flat text.
abbrev pub SplitFails : List ℕ → BytesFault → Type 0
SplitFails flat NoEexec = Lacks eexec_marker flat
SplitFails flat ShortCipher = LacksCipher flat
SplitFails flat (BadSegment at) = ⊥
SplitFails flat Memory = ⊥

-- ---- as it is read

-- the offset of what follows the first marker, and the cipher there
unfoldable pub split : List ℕ → Format BytesFault (ℕ × List ℕ)
split flat = do
  marker ← sought NoEexec eexec_marker flat
  secret ← wanted ShortCipher cipher_text marker.1
  give (length flat - length marker.1, secret.0)

-- what is read: the split, or why there is none
abbrev pub split_of : List ℕ → Result (ℕ × List ℕ) BytesFault
split_of flat = (split flat).read

-- an answer of code, its cipher as bytes
abbrev pub split_view : ℕ × Vec ℕ → ℕ × List ℕ
split_view x = (x.0, x.1.items)

-- the cipher of a text, where code says it is
abbrev pub cipher_in : List ℕ → Cipher → List ℕ
cipher_in text (Last n) = drop (length text - n) text
cipher_in text (Spelled v) = v.items

-- how many of the last bytes of a text are the cipher
abbrev pub last_bytes : Cipher → ℕ
last_bytes (Last n) = n
last_bytes (Spelled v) = 0
