-- Tables of so many entries: what is read is what the text spells, or the first place where it breaks off.
use Rattle.std.proofs.Common.{◌≡◌, inl, inr, ℕ, zero, suc, ◌+◌, ◌-◌, List, [], ◌∷◌, ◌++◌, length, Option, Some, None, Ok, Err, refl, sym, ap, subst, ◌∙◌, append_assoc, arith}
use Rattle.std.proofs.lemmas.List.{append-nil}
use Rattle.t1_grammar.specs.{Grammar.{Grammar, unspelled, unread}, Tables.{Entries, IsCounted, CountedAt, NextIsMissing, CountBreaksOff, Table, with_front, table_step, counted_at}}
use Rattle.t1_grammar.specs.TableLaws.{table_front, front_nil, with_front-with_front}

-- what is read is so many entries and their close, or it breaks off
abbrev pub CountedRead : {A B : Type 0} (entry : Grammar A) (close : Grammar B) (n : ℕ) → List ℕ → Table A B → Type 0
CountedRead entry close n bytes (Ok x) = CountedAt entry close n x.0 x.1 bytes x.2
CountedRead entry close n bytes (Err left) = CountBreaksOff entry close n bytes left

module _ {A B : Type 0} (entry : Grammar A) (close : Grammar B) where
  missing_front : (n m : ℕ) (left : List ℕ) → NextIsMissing entry close n m left → NextIsMissing entry close (suc n) (suc m) left
  missing_front n m left (inl s) = inl (omega (arith, s.0), s.1)
  missing_front n m left (inr s) = inr (ap suc s.0, s.1)

  -- with one more entry at the front, one entry more is read or missing
  counted_front : (n : ℕ) (a : A) (front bytes : List ℕ) (t : Table A B) →
      entry.Spells a front bytes → CountedRead entry close n bytes t → CountedRead entry close (suc n) (front ++ bytes) (with_front (a ∷ []) t)
  counted_front n a front bytes (Ok x) s r =
      let t = table_front entry close a front bytes x.0 x.1 x.2 s (r.0, r.1, r.2.1) in
      (t.0, t.1, (ap suc r.2.0, t.2))
  counted_front n a front bytes (Err left) s r = record {
    xs = a ∷ r.xs;
    front = front ++ r.front;
    parts = ap (λ (u : List ℕ). front ++ u) r.parts ∙ sym (append_assoc front r.front left);
    entries = (front, r.front, refl, subst (λ (u : List ℕ). entry.Spells a front u) r.parts s, r.entries);
    missing = missing_front n (length r.xs) left r.missing;
  }

  -- where no more entries are wanted, the close is read or missing
  close_reads : (bytes : List ℕ) (b : Option (B × List ℕ)) → close.read bytes ≡ b → CountedRead entry close zero bytes (table_step {A = A} b None Err bytes)
  close_reads bytes (Some b) c = let s = close.takes bytes b c in (s.0, s.1, (refl, ([], s.0, refl, refl, s.2)))
  close_reads bytes None c = record { xs = []; front = []; parts = refl; entries = refl; missing = inr (refl, unspelled close bytes c) }

  -- where one more is wanted, it is read before the others or missing
  entry_reads : (n : ℕ) (bytes : List ℕ) → ((x : A × List ℕ) → CountedRead entry close n x.1 (counted_at entry close n x.1)) →
      (a : Option (A × List ℕ)) → entry.read bytes ≡ a → CountedRead entry close (suc n) bytes (table_step {B = B} None a (counted_at entry close n) bytes)
  entry_reads n bytes others (Some a) e =
      let s = entry.takes bytes a e in
      let more = counted_front n a.0 s.0 a.1 (counted_at entry close n a.1) s.2 (others a) in
      subst (λ (u : List ℕ). CountedRead entry close (suc n) u (with_front (a.0 ∷ []) (counted_at entry close n a.1))) (sym s.1) more
  entry_reads n bytes others None e =
      record { xs = []; front = []; parts = refl; entries = refl; missing = inl (omega arith, unspelled entry bytes e) }

  -- what is read is spelled so, and what isn't read breaks off there
  pub counted_reads : (n : ℕ) (bytes : List ℕ) → CountedRead entry close n bytes (counted_at entry close n bytes)
  unfolding counted_at
  counted_reads zero bytes = close_reads bytes (close.read bytes) refl
  counted_reads (suc n) bytes = entry_reads n bytes (λ x. counted_reads n x.1) (entry.read bytes) refl

  -- one entry, and so many behind it
  one_counted : (n : ℕ) (bytes : List ℕ) (x : A × List ℕ) → entry.read bytes ≡ Some x →
      counted_at entry close (suc n) bytes ≡ with_front (x.0 ∷ []) (counted_at entry close n x.1)
  unfolding counted_at
  one_counted n bytes x e = ap (λ (o : Option (A × List ℕ)). table_step {B = B} None o (counted_at entry close n) bytes) e

  -- entries that are spelled are read before those that are left
  entries_counted : (m n : ℕ) (xs : List A) (text rest : List ℕ) → m ≡ length xs + n → Entries entry xs text rest →
      counted_at entry close m (text ++ rest) ≡ with_front xs (counted_at entry close n rest)
  entries_counted m n [] text rest all s =
      let none : m ≡ n = omega (arith, all) in
      (λ i. counted_at entry close (none i) (s i ++ rest)) ∙ front_nil (counted_at entry close n rest)
  entries_counted m n (a ∷ xs) text rest all s =
      let k : ℕ = length xs + n in
      let behind : List ℕ = s.1 ++ rest in
      let more : m ≡ suc k = omega (arith, all) in
      let whole : text ++ rest ≡ s.0 ++ behind = ap (λ (u : List ℕ). u ++ rest) s.2 ∙ append_assoc s.0 s.1 rest in
      let one = one_counted k (s.0 ++ behind) (a, behind) (entry.again a s.0 behind s.3) in
      let others = ap (with_front (a ∷ [])) (entries_counted k n xs s.1 rest refl s.4) in
      (λ i. counted_at entry close (more i) (whole i)) ∙ (one ∙ (others ∙ with_front-with_front (a ∷ []) xs (counted_at entry close n rest)))

  -- what is spelled so is read
  pub counted_again : (n : ℕ) (xs : List A) (b : B) (text rest : List ℕ) →
      IsCounted entry close n xs b text rest → counted_at entry close n (text ++ rest) ≡ Ok (xs, b, rest)
  unfolding counted_at
  counted_again n xs b text rest s =
      let t = s.1 in
      let behind : List ℕ = t.1 ++ rest in
      let whole : text ++ rest ≡ t.0 ++ behind = ap (λ (u : List ℕ). u ++ rest) t.2 ∙ append_assoc t.0 t.1 rest in
      let last : counted_at entry close zero behind ≡ Ok ([], b, rest) = rw (close.again b t.1 rest t.4) refl in
      let all = ap (with_front xs) last ∙ ap (λ (zs : List _). Ok (zs, b, rest)) (append-nil xs) in
      ap (counted_at entry close n) whole ∙ (entries_counted n zero xs t.0 behind (omega (arith, s.0)) t.3 ∙ all)

  -- what breaks off with m entries to come is not read
  count_broken_by : (n m : ℕ) (bytes left : List ℕ) (xs : List A) (front : List ℕ) → bytes ≡ front ++ left → Entries entry xs front left →
      n ≡ length xs + m → counted_at entry close m left ≡ Err left → counted_at entry close n bytes ≡ Err left
  count_broken_by n m bytes left xs front parts entries all last =
      ap (counted_at entry close n) parts ∙ (entries_counted n m xs front left all entries ∙ ap (with_front xs) last)

  -- where a counted table breaks off, reading finds that place
  pub count_broken : (n : ℕ) (bytes left : List ℕ) → CountBreaksOff entry close n bytes left → counted_at entry close n bytes ≡ Err left
  unfolding counted_at
  count_broken n bytes left s = by_missing s.missing
    where
      by_missing : NextIsMissing entry close n (length s.xs) left → counted_at entry close n bytes ≡ Err left
      by_missing (inl h) =
          let more : ℕ = suc (n - suc (length s.xs)) in
          count_broken_by n more bytes left s.xs s.front s.parts s.entries (omega (arith, h.0)) (rw (unread entry left h.1) refl)
      by_missing (inr h) = count_broken_by n zero bytes left s.xs s.front s.parts s.entries (omega (arith, h.0)) (rw (unread close left h.1) refl)

  -- ---- in a loop: n entries are left, behind those that were read

  -- one turn
  pub counted_turn : (n : ℕ) (front : List A) (bytes : List ℕ) (x : A × List ℕ) (total : Table A B) → entry.read bytes ≡ Some x →
      with_front front (counted_at entry close (suc n) bytes) ≡ total → with_front (front ++ x.0 ∷ []) (counted_at entry close n x.1) ≡ total
  counted_turn n front bytes x total e so_far =
      sym (with_front-with_front front (x.0 ∷ []) (counted_at entry close n x.1)) ∙ (sym (ap (with_front front) (one_counted n bytes x e)) ∙ so_far)

  -- where an entry that is still wanted is missing, reading breaks off
  pub counted_stops : (n : ℕ) (front : List A) (bytes : List ℕ) (total : Table A B) → entry.read bytes ≡ None →
      with_front front (counted_at entry close (suc n) bytes) ≡ total → total ≡ Err bytes
  unfolding counted_at
  counted_stops n front bytes total e so_far =
      let one : counted_at entry close (suc n) bytes ≡ Err bytes = rw e refl in
      sym so_far ∙ ap (with_front front) one

  -- where no more entries are wanted and the close comes, the table is read
  pub counted_closes : (front : List A) (bytes : List ℕ) (x : B × List ℕ) (total : Table A B) → close.read bytes ≡ Some x →
      with_front front (counted_at entry close zero bytes) ≡ total → total ≡ Ok (front, x.0, x.1)
  unfolding counted_at
  counted_closes front bytes x total c so_far =
      let one : counted_at entry close zero bytes ≡ Ok ([], x.0, x.1) = rw c refl in
      sym so_far ∙ (ap (with_front front) one ∙ ap (λ (zs : List _). Ok (zs, x.0, x.1)) (append-nil front))

  -- where no more entries are wanted and the close is missing, reading breaks off
  pub counted_unclosed : (front : List A) (bytes : List ℕ) (total : Table A B) → close.read bytes ≡ None →
      with_front front (counted_at entry close zero bytes) ≡ total → total ≡ Err bytes
  unfolding counted_at
  counted_unclosed front bytes total c so_far =
      let one : counted_at entry close zero bytes ≡ Err bytes = rw c refl in
      sym so_far ∙ ap (with_front front) one
