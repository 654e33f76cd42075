-- Tables: reading goes entry by entry, and finds what the text spells or the first place where it breaks off.
use Rattle.std.proofs.Common.{inl, inr, ◌≡◌, ℕ, zero, suc, ◌<◌, List, [], ◌∷◌, ◌++◌, length, Option, Some, None, Ok, Err, refl, sym, ap, subst, ◌∙◌, append_assoc, arith}
use Rattle.std.proofs.lemmas.List.{append-nil, length-append}
use Rattle.std.specs.Option.{option_and_then}
use Rattle.t1_grammar.specs.{Grammar.{Grammar, either, choice_some, unspelled, unread}, Tables.{Entries, IsTable, TableAt, BreaksOff, Table, with_front, table_step, table_within, table_at}}

-- an entry has bytes
abbrev pub Eats : {A : Type 0} → Grammar A → Type 0
Eats {A} g = (bytes : List ℕ) (x : A × List ℕ) → g.read bytes ≡ Some x → length x.1 < length bytes

-- a grammar whose texts have bytes
pub Eats-spelled : {A : Type 0} (g : Grammar A) → ((a : A) (text rest : List ℕ) → g.Spells a text rest → 0 < length text) → Eats g
Eats-spelled g h bytes x e = let s = g.takes bytes x e in omega (arith, ap length s.1, length-append s.0 x.1, h x.0 s.0 x.1 s.2)

-- where an entry can be read, no close can
abbrev pub Apart : {A B : Type 0} → Grammar A → Grammar B → Type 0
Apart {A} entry close = (bytes : List ℕ) (x : A × List ℕ) → entry.read bytes ≡ Some x → close.read bytes ≡ None

-- one or the other has bytes, where both have
pub eats_either : {A : Type 0} (g h : Grammar A) → Eats g → Eats h → Eats (either g h)
eats_either g h first second bytes x e = elim (choice_some (g.read bytes) (h.read bytes) x e) [ inl p ↦ first bytes x p | inr p ↦ second bytes x p.1 ]

-- no close can be read where one or the other can, if none can where each can
pub apart_either : {A B : Type 0} (close : Grammar B) (g h : Grammar A) → Apart g close → Apart h close → Apart (either g h) close
apart_either close g h first second bytes x e =
    elim (choice_some (g.read bytes) (h.read bytes) x e) [ inl p ↦ first bytes x p | inr p ↦ second bytes x p.1 ]

-- what keeps apart behind a text keeps apart with it
pub apart_behind : {S A B : Type 0} (f : S → Option A) (g : S → Option B) (o : Option S) (x : A) → option_and_then f o ≡ Some x →
    ((y : S) → f y ≡ Some x → g y ≡ None) → option_and_then g o ≡ None
apart_behind f g None x e apart = refl
apart_behind f g (Some y) x e apart = apart y e

-- what is read is a table, or it breaks off
abbrev pub Read : {A B : Type 0} (entry : Grammar A) (close : Grammar B) → List ℕ → Table A B → Type 0
Read entry close bytes (Ok x) = TableAt entry close x.0 x.1 bytes x.2
Read entry close bytes (Err left) = BreaksOff entry close bytes left

-- entries before a table are those of both
pub with_front-with_front : {A B : Type 0} (xs ys : List A) (t : Table A B) → with_front xs (with_front ys t) ≡ with_front (xs ++ ys) t
with_front-with_front xs ys (Ok x) = ap (λ (zs : List _). Ok (zs, x.1, x.2)) (sym (append_assoc xs ys x.0))
with_front-with_front xs ys (Err left) = refl

-- no entries before a table leave it as it is
pub front_nil : {A B : Type 0} (t : Table A B) → t ≡ with_front [] t
front_nil (Ok x) = refl
front_nil (Err left) = refl

-- what follows the first entry counts only where there is one
step_same : {A B : Type 0} (b : Option (B × List ℕ)) (a : Option (A × List ℕ)) (f g : List ℕ → Table A B) (bytes : List ℕ) →
    ((x : A × List ℕ) → a ≡ Some x → f x.1 ≡ g x.1) → table_step b a f bytes ≡ table_step b a g bytes
step_same (Some b) a f g bytes h = refl
step_same None None f g bytes h = refl
step_same None (Some a) f g bytes h = ap (with_front (a.0 ∷ [])) (h a refl)

module _ {A B : Type 0} (entry : Grammar A) (close : Grammar B) where
  -- a table with one entry more before it
  pub table_front : (a : A) (front bytes : List ℕ) (xs : List A) (b : B) (rest : List ℕ) →
      entry.Spells a front bytes → TableAt entry close xs b bytes rest → TableAt entry close (a ∷ xs) b (front ++ bytes) rest
  table_front a front bytes xs b rest s r =
      let regrouped = r.1 ∙ ap (λ (u : List ℕ). u ++ rest) r.2.2 ∙ append_assoc r.2.0 r.2.1 rest in (
        front ++ r.0,
        ap (λ (u : List ℕ). front ++ u) r.1 ∙ sym (append_assoc front r.0 rest),
        (
          front ++ r.2.0,
          r.2.1,
          ap (λ (u : List ℕ). front ++ u) r.2.2 ∙ sym (append_assoc front r.2.0 r.2.1),
          (front, r.2.0, refl, subst (λ (u : List ℕ). entry.Spells a front u) regrouped s, r.2.3),
          r.2.4,
        ),
      )

  -- what is read behind an entry is read with it
  Read-front : (a : A) (front bytes : List ℕ) (t : Table A B) →
      entry.Spells a front bytes → Read entry close bytes t → Read entry close (front ++ bytes) (with_front (a ∷ []) t)
  Read-front a front bytes (Ok x) s r = table_front a front bytes x.0 x.1 x.2 s r
  Read-front a front bytes (Err left) s r = record {
    xs = a ∷ r.xs;
    front = front ++ r.front;
    parts = ap (λ (u : List ℕ). front ++ u) r.parts ∙ sym (append_assoc front r.front left);
    entries = (front, r.front, refl, subst (λ (u : List ℕ). entry.Spells a front u) r.parts s, r.entries);
    no_entry = r.no_entry;
    no_close = r.no_close;
  }

  -- one step reads a table, where what follows the first entry does
  step_reads : (bytes : List ℕ) (others : List ℕ → Table A B) (b : Option (B × List ℕ)) (a : Option (A × List ℕ)) →
      close.read bytes ≡ b → entry.read bytes ≡ a →
      ((x : A × List ℕ) → entry.read bytes ≡ Some x → Read entry close x.1 (others x.1)) → Read entry close bytes (table_step b a others bytes)
  step_reads bytes others (Some b) a c e h = let s = close.takes bytes b c in (s.0, s.1, ([], s.0, refl, refl, s.2))
  step_reads bytes others None (Some a) c e h =
      let s = entry.takes bytes a e in
      let more = Read-front a.0 s.0 a.1 (others a.1) s.2 (h a e) in
      subst (λ (u : List ℕ). Read entry close u (with_front (a.0 ∷ []) (others a.1))) (sym s.1) more
  step_reads bytes others None None c e h = record {
    xs = [];
    front = [];
    parts = refl;
    entries = refl;
    no_entry = unspelled entry bytes e;
    no_close = unspelled close bytes c;
  }

module _ {A B : Type 0} (entry : Grammar A) (close : Grammar B) (eats : Eats entry) where
  -- more room than there are bytes changes nothing
  table_enough : (n m : ℕ) (bytes : List ℕ) → length bytes < n → length bytes < m → table_within entry close n bytes ≡ table_within entry close m bytes
  unfolding table_within
  table_enough zero m bytes h k = absurd (omega arith)
  table_enough (suc n) zero bytes h k = absurd (omega arith)
  table_enough (suc n) (suc m) bytes h k =
      step_same (close.read bytes) (entry.read bytes) (table_within entry close n) (table_within entry close m) bytes
      (λ x e. table_enough n m x.1 (omega (arith, eats bytes x e)) (omega (arith, eats bytes x e)))

  -- reading goes entry by entry
  pub table_at-step : (bytes : List ℕ) → table_at entry close bytes ≡ table_step (close.read bytes) (entry.read bytes) (table_at entry close) bytes
  unfolding table_within
  table_at-step bytes =
      step_same (close.read bytes) (entry.read bytes) (table_within entry close (length bytes)) (table_at entry close) bytes
      (λ x e. table_enough (length bytes) (suc (length x.1)) x.1 (eats bytes x e) (omega arith))

  -- one entry, and the table behind it
  one_entry : (bytes : List ℕ) (x : A × List ℕ) → close.read bytes ≡ None → entry.read bytes ≡ Some x →
      table_at entry close bytes ≡ with_front (x.0 ∷ []) (table_at entry close x.1)
  one_entry bytes x c e = rw (table_at-step bytes, c, e) refl

  -- one turn of a loop that reads a table
  pub turns : (front : List A) (bytes : List ℕ) (x : A × List ℕ) (total : Table A B) → close.read bytes ≡ None → entry.read bytes ≡ Some x →
      with_front front (table_at entry close bytes) ≡ total → with_front (front ++ x.0 ∷ []) (table_at entry close x.1) ≡ total
  turns front bytes x total c e so_far =
      sym (with_front-with_front front (x.0 ∷ []) (table_at entry close x.1)) ∙ (sym (ap (with_front front) (one_entry bytes x c e)) ∙ so_far)

  -- where the close comes, the table is read
  pub closes : (front : List A) (bytes : List ℕ) (x : B × List ℕ) (total : Table A B) → close.read bytes ≡ Some x →
      with_front front (table_at entry close bytes) ≡ total → total ≡ Ok (front, x.0, x.1)
  closes front bytes x total c so_far =
      let one : table_at entry close bytes ≡ Ok ([], x.0, x.1) = rw (table_at-step bytes, c) refl in
      sym so_far ∙ (ap (with_front front) one ∙ ap (λ (zs : List _). Ok (zs, x.0, x.1)) (append-nil front))

  -- where neither an entry nor the close comes, reading breaks off
  pub breaks : (front : List A) (bytes : List ℕ) (total : Table A B) → close.read bytes ≡ None → entry.read bytes ≡ None →
      with_front front (table_at entry close bytes) ≡ total → total ≡ Err bytes
  breaks front bytes total c e so_far =
      let one : table_at entry close bytes ≡ Err bytes = rw (table_at-step bytes, c, e) refl in
      sym so_far ∙ ap (with_front front) one

  within_reads : (n : ℕ) (bytes : List ℕ) → length bytes < n → Read entry close bytes (table_within entry close n bytes)
  unfolding table_within
  within_reads zero bytes h = absurd (omega arith)
  within_reads (suc n) bytes h =
      step_reads entry close bytes (table_within entry close n) (close.read bytes) (entry.read bytes) refl refl
      (λ x e. within_reads n x.1 (omega (arith, eats bytes x e)))

  -- what is read is spelled so, and a table that isn't read breaks off there
  pub table_reads : (bytes : List ℕ) → Read entry close bytes (table_at entry close bytes)
  table_reads bytes = within_reads (suc (length bytes)) bytes (omega arith)

module _ {A B : Type 0} (entry : Grammar A) (close : Grammar B) (eats : Eats entry) (apart : Apart entry close) where
  -- entries that are spelled are read before what follows them
  entries_again : (xs : List A) (text rest : List ℕ) → Entries entry xs text rest →
      table_at entry close (text ++ rest) ≡ with_front xs (table_at entry close rest)
  entries_again [] text rest s = rw s (front_nil (table_at entry close rest))
  entries_again (a ∷ xs) text rest s =
      let behind : List ℕ = s.1 ++ rest in
      let whole : text ++ rest ≡ s.0 ++ behind = ap (λ (u : List ℕ). u ++ rest) s.2 ∙ append_assoc s.0 s.1 rest in
      let here : entry.read (s.0 ++ behind) ≡ Some (a, behind) = entry.again a s.0 behind s.3 in
      let one = one_entry entry close eats (s.0 ++ behind) (a, behind) (apart (s.0 ++ behind) (a, behind) here) here in
      let others = ap (with_front (a ∷ [])) (entries_again xs s.1 rest s.4) in
      ap (table_at entry close) whole ∙ (one ∙ (others ∙ with_front-with_front (a ∷ []) xs (table_at entry close rest)))

  -- what is spelled so is read
  pub table_again : (xs : List A) (b : B) (text rest : List ℕ) → IsTable entry close xs b text rest → table_at entry close (text ++ rest) ≡ Ok (xs, b, rest)
  table_again xs b text rest s =
      let behind : List ℕ = s.1 ++ rest in
      let whole : text ++ rest ≡ s.0 ++ behind = ap (λ (u : List ℕ). u ++ rest) s.2 ∙ append_assoc s.0 s.1 rest in
      let last : table_at entry close behind ≡ Ok ([], b, rest) = rw (table_at-step entry close eats behind, close.again b s.1 rest s.4) refl in
      let all = ap (with_front xs) last ∙ ap (λ (zs : List _). Ok (zs, b, rest)) (append-nil xs) in
      ap (table_at entry close) whole ∙ (entries_again xs s.0 behind s.3 ∙ all)

  -- what breaks off is not read
  pub break_again : (bytes left : List ℕ) → BreaksOff entry close bytes left → table_at entry close bytes ≡ Err left
  break_again bytes left s =
      let no_close = unread close left s.no_close in
      let no_entry = unread entry left s.no_entry in
      let last : table_at entry close left ≡ Err left = rw (table_at-step entry close eats left, no_close, no_entry) refl in
      ap (table_at entry close) s.parts ∙ (entries_again s.xs s.front left s.entries ∙ ap (with_front s.xs) last)
