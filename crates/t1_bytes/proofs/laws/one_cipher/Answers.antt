use Rattle.t1_bytes.proofs.Ciphers.{is_encrypted, is_decrypted}
use Rattle.t1_bytes.proofs.laws.one_cipher.Goals as goal

pub returns : goal.returns
returns c key plain cipher = (is_encrypted plain cipher key, is_decrypted plain cipher key)
