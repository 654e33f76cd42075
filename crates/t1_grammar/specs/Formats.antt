-- Formats: what a whole text says, or the first reason why it says nothing. A format carries the laws that what is read is what is
-- spelled, and that the fault is the reason.
use Rattle.std.proofs.{Common.{refl, sym, ap, subst, ◌∙◌, inl, inr}, lemmas.Bool.{cases_Bool}}
use Rattle.std.specs.Prelude.{◌≡◌, ◌⊎◌, ℕ, Bool, true, false, List, Option, Some, None, Result, Ok, Err, if◌then◌else◌}
use Rattle.t1_grammar.specs.Grammar.{Grammar, AtFront, NotAtFront, Has, Lacks, first, first_at, front_again, unspelled, unread}
use Rattle.t1_grammar.specs.Places.{unread_lacks, lacks_unread, occurs, absent_lacks, lacks_absent, occurs_has, has_occurs}
use Rattle.t1_grammar.specs.{Tables.{Table, TableAt, BreaksOff, CountedAt, CountBreaksOff, table_at, counted_at}, TableLaws.{Eats, Apart, Read, table_reads, table_again, break_again}}
use Rattle.t1_grammar.specs.CountedLaws.{CountedRead, counted_reads, counted_again, count_broken}

-- what spells each value, what is the reason for each fault, and what is read: a value, or the first fault
pub record Format (E A : Type 0) : Type 1 where
  pub Spells : A → Type 0
  pub Reason : E → Type 0
  pub read : Result A E
  pub takes : (a : A) → read ≡ Ok a → Spells a
  pub again : (a : A) → Spells a → read ≡ Ok a
  pub refuses : (e : E) → read ≡ Err e → Reason e
  pub refused : (e : E) → Reason e → read ≡ Err e

-- one answer has one value
pub same_Ok : {E A : Type 0} (x y : A) → ◌≡◌ {A = Result A E} (Ok x) (Ok y) → x ≡ y
same_Ok x y e = cc

-- and one fault
pub same_Err : {E A : Type 0} (x y : E) → ◌≡◌ {A = Result A E} (Err x) (Err y) → x ≡ y
same_Err x y e = cc

-- and never both
pub ok_err : {E A C : Type 0} (x : A) (y : E) → ◌≡◌ {A = Result A E} (Ok x) (Err y) → C
ok_err x y e = absurd cc

-- a text spells at most one value
pub one_value : {E A : Type 0} (r : Format E A) (a b : A) → r.Spells a → r.Spells b → a ≡ b
one_value {E} {A} r a b s t = same_Ok {E = E} {A = A} a b (sym (r.again a s) ∙ r.again b t)

-- it has at most one fault
pub one_fault : {E A : Type 0} (r : Format E A) (d e : E) → r.Reason d → r.Reason e → d ≡ e
one_fault {E} {A} r d e s t = same_Err {E = E} {A = A} d e (sym (r.refused d s) ∙ r.refused e t)

-- it spells no value where it has a fault
pub not_both : {E A : Type 0} (r : Format E A) (a : A) (e : E) → r.Spells a → r.Reason e → ⊥
not_both r a e s t = ok_err a e (sym (r.again a s) ∙ r.refused e t)

-- it spells a value, or it has a fault
pub one_or_other : {E A : Type 0} (r : Format E A) → ((a : A) × r.Spells a) ⊎ ((e : E) × r.Reason e)
one_or_other {E} {A} r = by_read r.read refl
  where
    by_read : (o : Result A E) → r.read ≡ o → ((a : A) × r.Spells a) ⊎ ((e : E) × r.Reason e)
    by_read (Ok a) h = inl (a, r.takes a h)
    by_read (Err e) h = inr (e, r.refuses e h)

-- ---- this value

-- this value, whatever the text is
abbrev pub give : {E A : Type 0} → A → Format E A
give {E} {A} a = record {
  Spells = λ b. a ≡ b;
  Reason = λ e. ⊥;
  read = Ok a;
  takes = λ b h. same_Ok a b h;
  again = λ b h. ap (λ (x : A). Ok x) h;
  refuses = λ e h. ok_err a e h;
  refused = λ e h. absurd h;
}

-- ---- one after another

-- what f makes of a value; a fault stays
abbrev pub if_ok : {E A B : Type 0} → (A → Result B E) → Result A E → Result B E
if_ok f (Ok x) = f x
if_ok f (Err e) = Err e

module _ {E A B : Type 0} (r : Format E A) (f : A → Format E B) where
  -- a value of r, and what f makes of it
  abbrev pub SpellsThen : B → Type 0
  SpellsThen b = (a : A) × r.Spells a × (f a).Spells b

  -- a reason of r; or r has a value, and what f makes of it has a reason
  abbrev pub ReasonThen : E → Type 0
  ReasonThen e = r.Reason e ⊎ ((a : A) × r.Spells a × (f a).Reason e)

  pub then_takes : (o : Result A E) → r.read ≡ o → (b : B) → if_ok (λ a. (f a).read) o ≡ Ok b → SpellsThen b
  then_takes (Ok a) h b k = (a, r.takes a h, (f a).takes b k)
  then_takes (Err e) h b k = ok_err b e (sym k)

  pub then_refuses : (o : Result A E) → r.read ≡ o → (e : E) → if_ok (λ a. (f a).read) o ≡ Err e → ReasonThen e
  then_refuses (Ok a) h e k = inr (a, r.takes a h, (f a).refuses e k)
  then_refuses (Err d) h e k = inl (subst (λ (x : E). r.Reason x) (same_Err {E = E} {A = B} d e k) (r.refuses d h))

  pub then_again : (b : B) → SpellsThen b → if_ok (λ a. (f a).read) r.read ≡ Ok b
  then_again b s = rw (r.again s.0 s.1) ((f s.0).again b s.2)

  pub then_refused : (e : E) → ReasonThen e → if_ok (λ a. (f a).read) r.read ≡ Err e
  then_refused e (inl s) = rw (r.refused e s) refl
  then_refused e (inr s) = rw (r.again s.0 s.1) ((f s.0).refused e s.2)

-- one after another: the second is read only where the first has a value
infixl 10 ◌>>=◌
abbrev pub ◌>>=◌ : {E A B : Type 0} → Format E A → (A → Format E B) → Format E B
r >>= f = record {
  Spells = SpellsThen r f;
  Reason = ReasonThen r f;
  read = if_ok (λ a. (f a).read) r.read;
  takes = then_takes r f r.read refl;
  again = then_again r f;
  refuses = then_refuses r f r.read refl;
  refused = then_refused r f;
}

infixl 10 ◌>>◌
abbrev pub ◌>>◌ : {E A B : Type 0} → Format E A → Format E B → Format E B
r >> s = r >>= λ _. s

-- one after another, in either grouping
pub if_ok_twice : {E A B C : Type 0} (o : Result A E) (f : A → Result B E) (g : B → Result C E) → if_ok (λ x. if_ok g (f x)) o ≡ if_ok g (if_ok f o)
if_ok_twice (Ok x) f g = refl
if_ok_twice (Err e) f g = refl

-- ---- with other faults

-- the value; or what f makes of the fault
abbrev pub with_fault : {E F A : Type 0} → (E → F) → Result A E → Result A F
with_fault f (Ok x) = Ok x
with_fault f (Err e) = Err (f e)

module _ {E F A : Type 0} (f : E → F) (r : Format E A) where
  -- what f makes of a reason of r
  abbrev pub ReasonOf : F → Type 0
  ReasonOf e = (d : E) × r.Reason d × (e ≡ f d)

  pub fault_takes : (o : Result A E) → r.read ≡ o → (a : A) → with_fault f o ≡ Ok a → r.Spells a
  fault_takes (Ok x) h a k = subst (λ (y : A). r.Spells y) (same_Ok {E = F} x a k) (r.takes x h)
  fault_takes (Err d) h a k = ok_err a (f d) (sym k)

  pub fault_refuses : (o : Result A E) → r.read ≡ o → (e : F) → with_fault f o ≡ Err e → ReasonOf e
  fault_refuses (Ok x) h e k = ok_err x e k
  fault_refuses (Err d) h e k = (d, r.refuses d h, sym (same_Err {E = F} {A = A} (f d) e k))

  -- the values of r, and its faults as f names them
  abbrev pub faulted : Format F A
  faulted = record {
    Spells = r.Spells;
    Reason = ReasonOf;
    read = with_fault f r.read;
    takes = fault_takes r.read refl;
    again = λ a s. ap (with_fault f) (r.again a s);
    refuses = fault_refuses r.read refl;
    refused = λ e s. ap (with_fault f) (r.refused s.0 s.1) ∙ ap (λ (d : F). Err d) (sym s.2);
  }

-- ---- where a test holds

module _ {E : Type 0} (fault : E) where
  pub must_takes : (test : Bool) (x : Unit {0}) → ◌≡◌ {A = Result (Unit {0}) E} (if test then Ok tt else Err fault) (Ok x) → test ≡ true
  must_takes true x h = refl
  must_takes false x h = ok_err x fault (sym h)

  pub must_again : (test : Bool) (x : Unit {0}) → test ≡ true → ◌≡◌ {A = Result (Unit {0}) E} (if test then Ok tt else Err fault) (Ok x)
  must_again test x h = rw h refl

  pub must_refuses : (test : Bool) (e : E) → ◌≡◌ {A = Result (Unit {0}) E} (if test then Ok tt else Err fault) (Err e) → (test ≡ false) × (e ≡ fault)
  must_refuses true e h = ok_err tt e h
  must_refuses false e h = (refl, sym (same_Err {E = E} {A = Unit {0}} fault e h))

  pub must_refused : (test : Bool) (e : E) → (test ≡ false) × (e ≡ fault) → ◌≡◌ {A = Result (Unit {0}) E} (if test then Ok tt else Err fault) (Err e)
  must_refused test e h = rw (h.0, h.1) refl

-- nothing, where this test holds
abbrev pub must : {E : Type 0} → E → Bool → Format E (Unit {0})
must fault test = record {
  Spells = λ _. test ≡ true;
  Reason = λ e. (test ≡ false) × (e ≡ fault);
  read = if test then Ok tt else Err fault;
  takes = must_takes fault test;
  again = must_again fault test;
  refuses = must_refuses fault test;
  refused = must_refused fault test;
}

-- ---- what stands at the front of bytes

-- the value, or this fault
abbrev pub or_fault : {E A : Type 0} → E → Option A → Result A E
or_fault e (Some x) = Ok x
or_fault e None = Err e

module _ {E A : Type 0} (fault : E) (g : Grammar A) (bytes : List ℕ) where
  pub want_takes : (o : Option (A × List ℕ)) → g.read bytes ≡ o → (x : A × List ℕ) → or_fault fault o ≡ Ok x → AtFront g bytes x
  want_takes (Some y) h x k = g.takes bytes x (h ∙ ap (λ (z : A × List ℕ). Some z) (same_Ok y x k))
  want_takes None h x k = ok_err x fault (sym k)

  pub want_refuses : (o : Option (A × List ℕ)) → g.read bytes ≡ o → (e : E) → or_fault fault o ≡ Err e → NotAtFront g bytes × (e ≡ fault)
  want_refuses (Some y) h e k = ok_err y e k
  want_refuses None h e k = (unspelled g bytes h, sym (same_Err fault e k))

  -- what is read at the front of bytes
  abbrev pub wanted : Format E (A × List ℕ)
  wanted = record {
    Spells = AtFront g bytes;
    Reason = λ e. NotAtFront g bytes × (e ≡ fault);
    read = or_fault fault (g.read bytes);
    takes = want_takes (g.read bytes) refl;
    again = λ x s. rw (front_again g bytes x s) refl;
    refuses = want_refuses (g.read bytes) refl;
    refused = λ e s. rw (unread g bytes s.0) (ap (λ (d : E). Err d) (sym s.1));
  }

-- ---- the first place of a text

module _ {E A : Type 0} (fault : E) (g : Grammar A) (bytes : List ℕ) where
  pub sought_takes : (o : Option ((List ℕ × A) × List ℕ)) → first_at g bytes ≡ o → (x : (List ℕ × A) × List ℕ) →
      or_fault fault o ≡ Ok x → AtFront (first g) bytes x
  sought_takes o h x k = want_takes fault (first g) bytes o h x k

  pub sought_refuses : (o : Option ((List ℕ × A) × List ℕ)) → first_at g bytes ≡ o → (e : E) → or_fault fault o ≡ Err e → Lacks g bytes × (e ≡ fault)
  sought_refuses (Some y) h e k = ok_err y e k
  sought_refuses None h e k = (unread_lacks g bytes h, sym (same_Err {E = E} {A = (List ℕ × A) × List ℕ} fault e k))

  -- the first place of g, and what stands before it
  abbrev pub sought : Format E ((List ℕ × A) × List ℕ)
  sought = record {
    Spells = AtFront (first g) bytes;
    Reason = λ e. Lacks g bytes × (e ≡ fault);
    read = or_fault fault (first_at g bytes);
    takes = sought_takes (first_at g bytes) refl;
    again = λ x s. rw (front_again (first g) bytes x s) refl;
    refuses = sought_refuses (first_at g bytes) refl;
    refused = λ e s. rw (lacks_unread g bytes s.0) (ap (λ (d : E). Err d) (sym s.1));
  }

module _ {A : Type 0} (g : Grammar A) (bytes : List ℕ) where
  -- g stands first at a place, or at none
  abbrev pub MayOccur : Option ((List ℕ × A) × List ℕ) → Type 0
  MayOccur None = Lacks g bytes
  MayOccur (Some x) = AtFront (first g) bytes x

  pub occurs_takes : (o : Option ((List ℕ × A) × List ℕ)) → first_at g bytes ≡ o → MayOccur o
  occurs_takes None h = unread_lacks g bytes h
  occurs_takes (Some x) h = (first g).takes bytes x h

  pub occurs_again : (o : Option ((List ℕ × A) × List ℕ)) → MayOccur o → first_at g bytes ≡ o
  occurs_again None s = lacks_unread g bytes s
  occurs_again (Some x) s = front_again (first g) bytes x s

-- the first place of g, if it has one
abbrev pub if_sought : {E A : Type 0} → Grammar A → List ℕ → Format E (Option ((List ℕ × A) × List ℕ))
if_sought {E} {A} g bytes = record {
  Spells = MayOccur g bytes;
  Reason = λ e. ⊥;
  read = Ok (first_at g bytes);
  takes = λ o h. occurs_takes g bytes o (same_Ok {E = E} (first_at g bytes) o h);
  again = λ o s. ap (λ (x : Option ((List ℕ × A) × List ℕ)). Ok x) (occurs_again g bytes o s);
  refuses = λ e h. ok_err (first_at g bytes) e h;
  refused = λ e h. absurd h;
}

module _ {E A : Type 0} (fault : E) (g : Grammar A) (bytes : List ℕ) where
  pub lacking_takes : (x : Unit {0}) → ◌≡◌ {A = Result (Unit {0}) E} (if occurs g bytes then Err fault else Ok tt) (Ok x) → Lacks g bytes
  lacking_takes x h = elim (cases_Bool (occurs g bytes)) [
    | inl e ↦ ok_err x fault (sym (rw e at h))
    | inr e ↦ absent_lacks g bytes e
  ]

  pub lacking_refuses : (e : E) → ◌≡◌ {A = Result (Unit {0}) E} (if occurs g bytes then Err fault else Ok tt) (Err e) → Has g bytes × (e ≡ fault)
  lacking_refuses e h = elim (cases_Bool (occurs g bytes)) [
    | inl k ↦ (occurs_has g bytes k, sym (same_Err {E = E} {A = Unit {0}} fault e (rw k at h)))
    | inr k ↦ ok_err tt e (rw k at h)
  ]

  -- nothing, where g stands nowhere in the text
  abbrev pub lacking : Format E (Unit {0})
  lacking = record {
    Spells = λ _. Lacks g bytes;
    Reason = λ e. Has g bytes × (e ≡ fault);
    read = if occurs g bytes then Err fault else Ok tt;
    takes = lacking_takes;
    again = λ x s. rw (lacks_absent g bytes s) refl;
    refuses = lacking_refuses;
    refused = λ e s. rw (has_occurs g bytes s.0) (ap (λ (d : E). Err d) (sym s.1));
  }

-- ---- tables

-- the entries, their close and the rest; or the fault of what is left where they break off
abbrev pub in_table : {E A B : Type 0} → (List ℕ → E) → Table A B → Result (List A × B × List ℕ) E
in_table bad (Ok x) = Ok x
in_table bad (Err left) = Err (bad left)

module _ {E A B : Type 0} (bad : List ℕ → E) (entry : Grammar A) (close : Grammar B) (eats : Eats entry) (apart : Apart entry close) (bytes : List ℕ) where
  -- a table stands at the front
  abbrev pub SpellsTable : List A × B × List ℕ → Type 0
  SpellsTable x = TableAt entry close x.0 x.1 bytes x.2

  -- it breaks off
  abbrev pub ReasonTable : E → Type 0
  ReasonTable e = (left : List ℕ) × BreaksOff entry close bytes left × (e ≡ bad left)

  pub table_takes : (t : Table A B) → Read entry close bytes t → (x : List A × B × List ℕ) → in_table bad t ≡ Ok x → SpellsTable x
  table_takes (Ok y) r x k = subst SpellsTable (same_Ok {E = E} y x k) r
  table_takes (Err left) r x k = ok_err x (bad left) (sym k)

  pub table_refuses : (t : Table A B) → Read entry close bytes t → (e : E) → in_table bad t ≡ Err e → ReasonTable e
  table_refuses (Ok y) r e k = ok_err y e k
  table_refuses (Err left) r e k = (left, r, sym (same_Err {E = E} {A = List A × B × List ℕ} (bad left) e k))

  pub table_spelled : (x : List A × B × List ℕ) → SpellsTable x → in_table bad (table_at entry close bytes) ≡ Ok x
  table_spelled x s = ap (in_table bad) (ap (table_at entry close) s.1 ∙ table_again entry close eats apart x.0 x.1 s.0 x.2 s.2)

  pub table_refused : (e : E) → ReasonTable e → in_table bad (table_at entry close bytes) ≡ Err e
  table_refused e s = ap (in_table bad) (break_again entry close eats apart bytes s.0 s.1) ∙ ap (λ (d : E). Err d) (sym s.2)

  -- entries up to what closes them
  abbrev pub table : Format E (List A × B × List ℕ)
  table = record {
    Spells = SpellsTable;
    Reason = ReasonTable;
    read = in_table bad (table_at entry close bytes);
    takes = table_takes (table_at entry close bytes) (table_reads entry close eats bytes);
    again = table_spelled;
    refuses = table_refuses (table_at entry close bytes) (table_reads entry close eats bytes);
    refused = table_refused;
  }

module _ {E A B : Type 0} (bad : List ℕ → E) (entry : Grammar A) (close : Grammar B) (n : ℕ) (bytes : List ℕ) where
  -- so many entries and their close stand at the front
  abbrev pub SpellsCounted : List A × B × List ℕ → Type 0
  SpellsCounted x = CountedAt entry close n x.0 x.1 bytes x.2

  -- one of them is missing
  abbrev pub ReasonCounted : E → Type 0
  ReasonCounted e = (left : List ℕ) × CountBreaksOff entry close n bytes left × (e ≡ bad left)

  pub counted_takes : (t : Table A B) → CountedRead entry close n bytes t → (x : List A × B × List ℕ) → in_table bad t ≡ Ok x → SpellsCounted x
  counted_takes (Ok y) r x k = subst SpellsCounted (same_Ok {E = E} y x k) r
  counted_takes (Err left) r x k = ok_err x (bad left) (sym k)

  pub counted_refuses : (t : Table A B) → CountedRead entry close n bytes t → (e : E) → in_table bad t ≡ Err e → ReasonCounted e
  counted_refuses (Ok y) r e k = ok_err y e k
  counted_refuses (Err left) r e k = (left, r, sym (same_Err {E = E} {A = List A × B × List ℕ} (bad left) e k))

  pub counted_spelled : (x : List A × B × List ℕ) → SpellsCounted x → in_table bad (counted_at entry close n bytes) ≡ Ok x
  counted_spelled x s = ap (in_table bad) (ap (counted_at entry close n) s.1 ∙ counted_again entry close n x.0 x.1 s.0 x.2 s.2)

  pub counted_refused : (e : E) → ReasonCounted e → in_table bad (counted_at entry close n bytes) ≡ Err e
  counted_refused e s = ap (in_table bad) (count_broken entry close n bytes s.0 s.1) ∙ ap (λ (d : E). Err d) (sym s.2)

  -- so many entries and what closes them
  abbrev pub counted : Format E (List A × B × List ℕ)
  counted = record {
    Spells = SpellsCounted;
    Reason = ReasonCounted;
    read = in_table bad (counted_at entry close n bytes);
    takes = counted_takes (counted_at entry close n bytes) (counted_reads entry close n bytes);
    again = counted_spelled;
    refuses = counted_refuses (counted_at entry close n bytes) (counted_reads entry close n bytes);
    refused = counted_refused;
  }
