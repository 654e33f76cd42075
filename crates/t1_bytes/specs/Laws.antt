-- The laws of containers and ciphers, each the contract of a function in `laws`.
use Rattle.std.specs.{Prelude.{◌≡◌, ◌⊎◌, ◌↔◌, ◌≤◌, ◌<◌, ◌^◌, ℕ, List, [], ◌∷◌, ◌++◌, length, drop, replicate, codes, false, None, Ok, Err}, List.{AllByRecursion}}
use Rattle.t1_bytes.specs.{declared.fault.BytesFault.{BytesFault}, declared.fault.BytesFault.TheVariants.{NoEexec}, Cipher.{Enciphers, encrypted, decrypted, sealed, opened}, White.{white, gap}}
use Rattle.t1_bytes.specs.{Segments.{segment, end}, FlatText.{IsFlat, IsBad, flat_of}, Split.{IsSplit, SplitFails, split_of}}
use Rattle.t1_bytes.specs.Eexec.{eexec_marker, blank_comes, is_hex_text, hex_text, hex_cipher, cipher_text}
use Rattle.t1_bytes.specs.Texts.{pfb_text, hex_lines, trailer}
use Rattle.t1_grammar.specs.Grammar.{AtFront, IsExact, count, fixed, first}

-- what is read of counted bytes, of a fixed text, of white space, of segments and their end, of the marker and of the cipher
-- is what is spelled, and what is spelled is read
pub record ReadsAsSpelled : Type 0 where
  pub counts : (n : ℕ) → IsExact (count n)
  pub texts : (text : List ℕ) → IsExact (fixed text)
  pub whites : IsExact white
  pub gaps : IsExact gap
  pub segments : IsExact segment
  pub ends : IsExact end
  pub markers : IsExact eexec_marker
  pub first_markers : IsExact (first eexec_marker)
  pub hex_texts : IsExact hex_text
  pub hex_ciphers : IsExact hex_cipher
  pub ciphers : IsExact cipher_text

-- encryption and decryption undo each other
abbrev pub UndoEachOther : Type 0
UndoEachOther = (key : ℕ) (bytes : List ℕ) → (decrypted key (encrypted key bytes) ≡ bytes) × (encrypted key (decrypted key bytes) ≡ bytes)

-- plain bytes have one cipher, and a cipher has one plain text
abbrev pub OneCipher : Type 0
OneCipher = (key : ℕ) (plain cipher : List ℕ) →
    (Enciphers key plain cipher ↔ (encrypted key plain ≡ cipher)) × (Enciphers key plain cipher ↔ (decrypted key cipher ≡ plain))

-- a text after lead bytes that are zero is opened again
abbrev pub OpensSealed : Type 0
OpensSealed = (key lead : ℕ) (text : List ℕ) → opened key lead (sealed key lead text) ≡ text

-- what is read of a file is its flat text, or the place where it is bad, and the other way round
pub record ReadsFlat : Type 0 where
  pub texts : (file flat : List ℕ) → (flat_of file ≡ Ok flat) ↔ IsFlat file flat
  pub places : (file : List ℕ) (at : ℕ) → (flat_of file ≡ Err at) ↔ IsBad file at

-- what is read of a flat text is its split, or the reason why it has none, and the other way round
pub record ReadsSplit : Type 0 where
  pub splits : (flat : List ℕ) (at : ℕ) (cipher : List ℕ) → (split_of flat ≡ Ok (at, cipher)) ↔ IsSplit flat at cipher
  pub reasons : (flat : List ℕ) (fault : BytesFault) → (split_of flat ≡ Err fault) ↔ SplitFails flat fault

-- a file has a flat text
abbrev pub HasFlatText : List ℕ → Type 0
HasFlatText file = (flat : List ℕ) × IsFlat file flat

-- a file is bad at some place
abbrev pub HasBadPlace : List ℕ → Type 0
HasBadPlace file = (at : ℕ) × IsBad file at

-- a file is flat to exactly one text, or bad at exactly one place: always one of the two, never both
pub record OneFlatText : Type 0 where
  pub always : (file : List ℕ) → HasFlatText file ⊎ HasBadPlace file
  pub texts : (file flat other : List ℕ) → IsFlat file flat → IsFlat file other → flat ≡ other
  pub places : (file : List ℕ) (at other : ℕ) → IsBad file at → IsBad file other → at ≡ other
  pub apart : (file flat : List ℕ) (at : ℕ) → IsFlat file flat → IsBad file at → ⊥

-- the flat text of segments that are written is their data
abbrev pub FlattensWritten : Type 0
FlattensWritten = (clear cipher trailer : List ℕ) → length clear < 2 ^ 32 → length cipher < 2 ^ 32 → length trailer < 2 ^ 32 →
    IsFlat (pfb_text clear cipher trailer) (clear ++ (cipher ++ trailer))

-- a flat text has a split
abbrev pub HasSplit : List ℕ → Type 0
HasSplit flat = (at : ℕ) × (cipher : List ℕ) × IsSplit flat at cipher

-- a flat text has a reason why it isn't split
abbrev pub HasReason : List ℕ → Type 0
HasReason flat = (fault : BytesFault) × SplitFails flat fault

-- a flat text is split in exactly one way, or it isn't for exactly one reason: always one of the two, never both
pub record OneSplit : Type 0 where
  pub always : (flat : List ℕ) → HasSplit flat ⊎ HasReason flat
  pub places : (flat : List ℕ) (at other : ℕ) (cipher found : List ℕ) → IsSplit flat at cipher → IsSplit flat other found → at ≡ other
  pub ciphers : (flat : List ℕ) (at other : ℕ) (cipher found : List ℕ) → IsSplit flat at cipher → IsSplit flat other found → cipher ≡ found
  pub reasons : (flat : List ℕ) (fault other : BytesFault) → SplitFails flat fault → SplitFails flat other → fault ≡ other
  pub apart : (flat : List ℕ) (at : ℕ) (cipher : List ℕ) (fault : BytesFault) → IsSplit flat at cipher → SplitFails flat fault → ⊥

-- a flat text is refused for want of `eexec` exactly where the marker is read at no offset
abbrev pub LacksEverywhere : Type 0
LacksEverywhere = (flat : List ℕ) → SplitFails flat NoEexec ↔ ((k : ℕ) → k ≤ length flat → eexec_marker.read (drop k flat) ≡ None)

-- numbers below 256
abbrev pub AreBytes : List ℕ → Type 0
AreBytes bytes = AllByRecursion (λ b. b < 256) bytes

-- Hexadecimal lines before the trailer are read as the bytes that they were written from, and then as the zeros of the trailer.
-- The `c` of `cleartomark` is a digit too, odd and dropped.
abbrev pub ReadsHexLines : Type 0
ReadsHexLines = (cipher : List ℕ) → 4 ≤ length cipher → AreBytes cipher →
    AtFront cipher_text (hex_lines cipher ++ trailer) (cipher ++ replicate 256 0, codes "leartomark" ++ 10 ∷ [])

-- a binary cipher is read as it stands, if its first byte is no blank, tab, CR or LF and its first four are not all hexadecimal digits
abbrev pub ReadsBinary : Type 0
ReadsBinary = (cipher : List ℕ) → 4 ≤ length cipher → blank_comes cipher ≡ false → is_hex_text cipher ≡ false → AtFront cipher_text cipher (cipher, [])
