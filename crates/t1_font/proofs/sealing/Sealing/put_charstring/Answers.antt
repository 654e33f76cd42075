use Rattle.std.{proofs.{Common.{◌≡◌, ◌++◌, List, ℕ, length, sym, ap, ◌∙◌, arith}, lemmas.Grind.{common_steps}}, specs.Prelude.{replicate}}
use Rattle.t1_bytes.specs.{Cipher.{encrypted}, Keys.{key_behind}}
use Rattle.t1_font.{specs.Canon.{sealed_body}, proofs.Sealings.{whole, new_is, next_is, before_new, inside_new, text_new}}
use Rattle.t1_font.proofs.sealing.Sealing.put_charstring.Goals as goal

grown : (c : goal.After-self-2-1) → c.extend_from_slice.new.self.items ≡ c.self.inside.bytes.items ++ (replicate c.args.len_iv 0 ++ c.args.plain.now)
grown c = grind (arith, common_steps)

start_is : (c : goal.After-self-2-1) → c.len-start.result ≡ length c.self.inside.bytes.items
start_is c = grind (arith, common_steps)

-- what stands there in the end
ends : (c : goal.After-self-2-1) → c.seal_end-self-inside.new.bytes.items
    ≡ whole c.self.inside.bytes.items c.self.inside.done c.self.inside.key c.self.invariant.within c.self.invariant.key
    ++ encrypted 4330 (replicate c.args.len_iv 0 ++ c.args.plain.now)
ends c = c.seal_end-self-inside.ensures.text
    ∙ new_is c.self.inside.bytes.items c.self.inside.done c.self.inside.key c.self.invariant.within c.self.invariant.key
    (replicate c.args.len_iv 0 ++ c.args.plain.now) c.extend_from_slice.new.self.items c.len-start.result (grown c) (start_is c)

pub invariant_of-self-2 : goal.invariant_of-self-2
invariant_of-self-2 c =
    let s = c.self.inside in
    let body : List ℕ = replicate c.args.len_iv 0 ++ c.args.plain.now in
    let more = c.extend_from_slice.new.self.items in
    let new = c.seal_end-self-inside.new.bytes.items in
    record {
      within = inside_new s.bytes.items s.done s.key c.self.invariant.within c.self.invariant.key body more c.len-start.result
          (grown c) (start_is c) new (ends c);
      key = c.seal_end-self-inside.ensures.key
          ∙ (next_is s.bytes.items s.done s.key c.self.invariant.within c.self.invariant.key body more c.len-start.result (grown c) (start_is c)
          ∙ ap (key_behind 55665) (sym (before_new s.bytes.items s.done s.key c.self.invariant.within c.self.invariant.key body more c.len-start.result
          (grown c) (start_is c) new (ends c))));
    }

pub returns : goal.returns
returns c =
    let s = c.self.inside in
    text_new s.bytes.items s.done s.key c.self.invariant.within c.self.invariant.key (replicate c.args.len_iv 0 ++ c.args.plain.now)
    c.extend_from_slice.new.self.items c.len-start.result (grown c) (start_is c) c.seal_end-self-inside.new.bytes.items (ends c)
    ∙ ap (λ (t : List ℕ). t ++ sealed_body c.args.len_iv c.args.plain.now) c.self.view_is
