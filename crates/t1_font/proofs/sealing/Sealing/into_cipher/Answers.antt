use Rattle.std.proofs.Common.{◌∙◌, ap}
use Rattle.t1_bytes.specs.Cipher.{encrypted}
use Rattle.t1_font.proofs.Sealings.{cipher_is}
use Rattle.t1_font.proofs.sealing.Sealing.into_cipher.Goals as goal

pub returns : goal.returns
returns c = c.encrypt_rest.ensures ∙ (cipher_is c.self.inside.bytes.items c.self.inside.done c.self.inside.key c.self.invariant.within c.self.invariant.key
    ∙ ap (encrypted 55665) c.self.view_is)
