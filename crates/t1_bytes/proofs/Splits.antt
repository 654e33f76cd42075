-- What is read of a flat text is its split by its parts, and the fault the reason why it has none.
use Rattle.std.proofs.{Common.{◌≡◌, ℕ, ◌-◌, List, length, inl, inr, refl, sym, ap, subst, arith}, lemmas.List.{length-append}}
use Rattle.t1_grammar.specs.Grammar.{AtFront}
use Rattle.t1_bytes.specs.{declared.fault.BytesFault.{BytesFault}, declared.fault.BytesFault.TheVariants.{BadSegment, Memory, NoEexec, ShortCipher}}
use Rattle.t1_bytes.specs.{Eexec.{cipher_text}, Split.{split, IsSplit, SplitFails}, Laws.{ReadsSplit}}

-- what the reading of a flat text spells is its split
pub split_said : (flat : List ℕ) (at : ℕ) (cipher : List ℕ) → (split flat).Spells (at, cipher) → IsSplit flat at cipher
unfolding split
split_said flat at cipher s = record {
  clear = s.1.0;
  after = s.0.1;
  rest = s.2.0.1;
  marker = s.0.0;
  parts = s.1.1;
  place = omega (arith, ap (λ (x : ℕ × List ℕ). x.0) s.2.2, ap length s.1.1, length-append s.1.0 s.0.1);
  ends = s.1.2;
  secret = subst (λ (c : List ℕ). AtFront cipher_text s.0.1 (c, s.2.0.1)) (ap (λ (x : ℕ × List ℕ). x.1) s.2.2) s.2.1;
}

-- and the other way round
pub said_split : (flat : List ℕ) (at : ℕ) (cipher : List ℕ) → IsSplit flat at cipher → (split flat).Spells (at, cipher)
unfolding split
said_split flat at cipher s =
    let place : length flat - length s.after ≡ at = omega (arith, s.place, ap length s.parts, length-append s.clear s.after) in
    ((s.marker, s.after), (s.clear, s.parts, s.ends), ((cipher, s.rest), s.secret, ap (λ (n : ℕ). (n, cipher)) place))

-- the reason why the reading of a flat text spells nothing is the reason why it isn't split
pub fails_said : (flat : List ℕ) (fault : BytesFault) → (split flat).Reason fault → SplitFails flat fault
unfolding split
fails_said flat fault (inl r) = subst (SplitFails flat) (sym r.1) r.0
fails_said flat fault (inr (found, at, inl r)) =
    subst (SplitFails flat) (sym r.1) (record { marker = found.0; after = found.1; ends = at; short = r.0 })
fails_said flat fault (inr (found, at, inr (secret, there, none))) = absurd none

-- and the other way round
pub said_fails : (flat : List ℕ) (fault : BytesFault) → SplitFails flat fault → (split flat).Reason fault
unfolding split
said_fails flat NoEexec s = inl (s, refl)
said_fails flat ShortCipher s = inr ((s.marker, s.after), s.ends, inl (s.short, refl))
said_fails flat (BadSegment at) s = absurd s
said_fails flat Memory s = absurd s

-- what is read
pub split_reads : ReadsSplit
split_reads = record {
  splits = λ flat at cipher. (
    λ e. split_said flat at cipher ((split flat).takes (at, cipher) e),
    λ s. (split flat).again (at, cipher) (said_split flat at cipher s),
  );
  reasons = λ flat fault. (
    λ e. fails_said flat fault ((split flat).refuses fault e),
    λ s. (split flat).refused fault (said_fails flat fault s),
  );
}
