use Rattle.std.{proofs.{Common.{◌≡◌, ◌++◌, length, sym, ap, ◌∙◌, arith}, lemmas.Grind.{common_steps}}, specs.Prelude.{replicate}}
use Rattle.t1_bytes.{specs.Cipher.{encrypted}, proofs.Ciphers.{encrypted_whole}}
use Rattle.t1_bytes.proofs.cipher.seal.Goals as goal

pub returns-clause-text : goal.returns-clause-text
returns-clause-text c =
    let bytes = c.extend_from_slice.new.self in
    let is : bytes.items ≡ replicate c.args.lead 0 ++ c.args.text.now = grind (arith, common_steps) in
    let cipher : c.encrypt.new.bytes ≡ encrypted c.args.key bytes.items = c.encrypt.ensures.value ∙ ap (encrypted c.args.key) c.as_mut_slice.ensures.value in
    let size : bytes.len ≡ length bytes.items = sym c.as_mut_slice.ensures.len ∙ ap length c.as_mut_slice.ensures.value in
    encrypted_whole c.args.key c.args.lead bytes.len c.args.text.now bytes.items c.encrypt.new.bytes is cipher size
