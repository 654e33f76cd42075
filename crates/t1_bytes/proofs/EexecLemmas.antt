-- What is known of the marker and the cipher that were read, and the split of a flat text.
use Rattle.std.proofs.{Common.{◌≡◌, ℕ, ◌≤◌, ◌-◌, List, ◌++◌, length, drop, Option, Some, None, Result, Ok, Err, MatchResult, refl, sym, ap, ◌∙◌, arith}, lemmas.List.{length-append}}
use Rattle.std.proofs.{Math.Seq.{drop-append-add}, lemmas.Option.{same_Some, none-some}}
use Rattle.std.specs.{Prelude.{codes}, Option.{option_map}}
use Rattle.t1_bytes.specs.{declared.eexec.Cipher.{Cipher}, declared.eexec.Cipher.TheVariants.{Last, Spelled}, declared.fault.BytesFault.{BytesFault}}
use Rattle.t1_bytes.specs.{declared.fault.BytesFault.TheVariants.{BadSegment, Memory, NoEexec, ShortCipher}, Eexec.{eexec_marker, cipher_text}}
use Rattle.t1_bytes.specs.{Split.{split, IsSplit, SplitFails, split_of, cipher_in, last_bytes}, Faults.{Refused, Answers, OrMemory}}
use Rattle.t1_bytes.proofs.Splits.{split_said, fails_said}
use Rattle.t1_grammar.specs.{Grammar.{first, Begins}, Formats.{if_ok, if_ok_twice, or_fault}}

-- the marker can be read only where `currentfile` stands
pub eexec_begins : Begins (codes "currentfile") eexec_marker
unfolding eexec_marker
eexec_begins bytes e = rw e refl

-- where what follows the marker is known, the marker was read
pub marker_found : {A : Type 0} (o : Option (A × List ℕ)) (rest : List ℕ) → option_map (λ (x : A × List ℕ). x.1) o ≡ Some rest → (a : A) × (o ≡ Some (a, rest))
marker_found None rest e = absurd (none-some rest e)
marker_found {A} (Some x) rest e = (x.0, ap (λ (r : List ℕ). Some (x.0, r)) (same_Some x.1 rest e))

-- where nothing follows a marker, no marker was read
pub marker_absent : {A : Type 0} (o : Option (A × List ℕ)) → option_map (λ (x : A × List ℕ). x.1) o ≡ None → o ≡ None
marker_absent None e = refl
marker_absent (Some x) e = absurd cc

-- the cipher that was read, after this place
abbrev pub placed : ℕ → Result (List ℕ) BytesFault → Result (ℕ × List ℕ) BytesFault
placed n cipher = if_ok (λ (c : List ℕ). Ok (n, c)) cipher

-- the cipher of what follows the marker, or that it is too short
abbrev pub cipher_of : List ℕ → Result (List ℕ) BytesFault
cipher_of after = if_ok (λ x. Ok x.0) (or_fault ShortCipher (cipher_text.read after))

-- what follows the first marker is no longer than the flat text
pub split_within : (flat after : List ℕ) → option_map (λ (x : (List ℕ × List ℕ) × List ℕ). x.1) ((first eexec_marker).read flat) ≡ Some after →
    length after ≤ length flat
split_within flat after e =
    let found = marker_found ((first eexec_marker).read flat) after e in
    let s = (first eexec_marker).takes flat (found.0, after) found.1 in
    omega (arith, ap length s.1, length-append s.0 after)

-- a flat text without the marker is refused as NoEexec
pub split_absent : (flat : List ℕ) → option_map (λ (x : (List ℕ × List ℕ) × List ℕ). x.1) ((first eexec_marker).read flat) ≡ None →
    split_of flat ≡ Err NoEexec
unfolding split
split_absent flat e = rw (marker_absent ((first eexec_marker).read flat) e) refl

-- a flat text with the marker is split after the first one, at the cipher that follows
pub split_found : (flat after : List ℕ) → option_map (λ (x : (List ℕ × List ℕ) × List ℕ). x.1) ((first eexec_marker).read flat) ≡ Some after →
    split_of flat ≡ placed (length flat - length after) (cipher_of after)
unfolding split
split_found flat after e =
    rw (marker_found ((first eexec_marker).read flat) after e).1
    (if_ok_twice (or_fault ShortCipher (cipher_text.read after)) (λ x. Ok x.0) (λ (c : List ℕ). Ok (length flat - length after, c)))

-- the cipher of what stands after the marker is that of the whole text
cipher_behind : (front after : List ℕ) (c : Cipher) → last_bytes c ≤ length after → cipher_in after c ≡ cipher_in (front ++ after) c
cipher_behind front after (Spelled v) room = refl
cipher_behind front after (Last n) room =
    sym (ap (λ k. drop k (front ++ after)) (omega (arith, room, length-append front after)) ∙ drop-append-add front after (length after - n))

-- a cipher that lies in what follows the marker is the same cipher in the flat text
pub cipher_stays : (flat after : List ℕ) → option_map (λ (x : (List ℕ × List ℕ) × List ℕ). x.1) ((first eexec_marker).read flat) ≡ Some after →
    (c : Cipher) → last_bytes c ≤ length after → cipher_in after c ≡ cipher_in flat c
cipher_stays flat after e c room =
    let found = marker_found ((first eexec_marker).read flat) after e in
    let whole = (first eexec_marker).takes flat (found.0, after) found.1 in
    cipher_behind whole.0 after c room ∙ ap (λ (t : List ℕ). cipher_in t c) (sym whole.1)

-- a refusal of the cipher is the refusal of the split
pub err_placed : (fault : BytesFault) (n : ℕ) (cipher : Result (List ℕ) BytesFault) → Refused fault cipher → Refused fault (placed n cipher)
err_placed Memory n cipher r = tt
err_placed NoEexec n cipher r = ap (placed n) r
err_placed ShortCipher n cipher r = ap (placed n) r
err_placed (BadSegment at) n cipher r = ap (placed n) r

-- ---- what was answered

-- an answer that agrees with the split as a function is right by its relation
pub split_answers : {X : Type 0} (view : X → ℕ × List ℕ) (flat : List ℕ) (r : Result X BytesFault) → Answers view r (split_of flat) →
    MatchResult r (λ x. IsSplit flat (view x).0 (view x).1) (OrMemory (SplitFails flat))
split_answers view flat (Ok x) h = split_said flat (view x).0 (view x).1 ((split flat).takes (view x) h)
split_answers view flat (Err Memory) h = tt
split_answers view flat (Err NoEexec) h = fails_said flat NoEexec ((split flat).refuses NoEexec h)
split_answers view flat (Err ShortCipher) h = fails_said flat ShortCipher ((split flat).refuses ShortCipher h)
split_answers view flat (Err (BadSegment at)) h = fails_said flat (BadSegment at) ((split flat).refuses (BadSegment at) h)
