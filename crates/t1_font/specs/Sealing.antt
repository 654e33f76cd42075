-- A private text while it is written: its first bytes are encrypted already.
use Rattle.std.specs.Prelude.{◌≡◌, ◌≤◌, ℕ, List, ◌++◌, length, take, drop}
use Rattle.t1_bytes.specs.{Cipher.{decrypted}, Keys.{key_behind}}
use Rattle.t1_font.specs.declared.sealing.Sealing.TheInside.{Inside}

-- the text: what the encrypted bytes decrypt to, and the other bytes
abbrev pub sealing_text : Inside → List ℕ
sealing_text s = decrypted 55665 (take s.done s.bytes.items) ++ drop s.done s.bytes.items

-- the key is the one behind the encrypted bytes
pub record IsSealing (s : Inside) : Type 0 where
  pub within : s.done ≤ length s.bytes.items
  pub key : s.key ≡ key_behind 55665 (take s.done s.bytes.items)
