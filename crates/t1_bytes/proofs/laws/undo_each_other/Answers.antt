use Rattle.t1_bytes.proofs.Ciphers.{decrypted-encrypted, encrypted-decrypted}
use Rattle.t1_bytes.proofs.laws.undo_each_other.Goals as goal

pub returns : goal.returns
returns c key bytes = (decrypted-encrypted bytes key, encrypted-decrypted bytes key)
