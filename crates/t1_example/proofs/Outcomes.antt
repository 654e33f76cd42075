-- What a caller's work comes to, from what its calls answer.
use Rattle.std.{proofs.Common.{◌≡◌, ◌⊎◌, ℕ, inl, inr, List, refl, sym, subst, Option, Some, None, Result, Ok, Err, IfOk, IfErr, Vec, Global}, specs.Option.{option_or}}
use Rattle.t1_bytes.specs.declared.form.Form.{Form}
use Rattle.t1_font.specs.{declared.fault.ReadFault.{ReadFault}, Answers.{Refused}, FontValue.{FontValue}, ReadFont.{read_font}}
use Rattle.t1_algebra.specs.{Conflicts.{conflict}, Profile.{profile}, States.{Join, joined_font}}
use Rattle.t1_subset.specs.{declared.conflict.Conflict.{Conflict}, Merger.{IsMerger}, Refusals.{Tells}}
use Rattle.t1_example.specs.{declared.refusal.Refusal.{Refusal}, declared.refusal.Refusal.TheVariants.{Read, Subset, Merge, Memory}, Refusals.{IsMemory, LacksFirst, first_lacking}}
use Rattle.t1_example.specs.Outcomes.{FileComesTo, CutsMergeTo, FilesMergeTo, MergeTo, file_of}
use Rattle.t1_font.specs.declared.fault.ReadFault.TheVariants as reading
use Rattle.t1_subset.specs.declared.fault.SubsetFault.TheVariants as subsetting

-- a file is refused for want of memory, or for what is read of it
pub unread : (e : ReadFault) (r : Result FontValue ReadFault) → Refused e r → (e ≡ reading.Memory) ⊎ (r ≡ Err e)
unread reading.TooLong r h = inr h
unread (reading.BadSegment at) r h = inr h
unread reading.NoEexec r h = inr h
unread reading.ShortCipher r h = inr h
unread reading.NoEncoding r h = inr h
unread (reading.BadEncoding at) r h = inr h
unread reading.NoCharStrings r h = inr h
unread reading.BadLenIV r h = inr h
unread (reading.BadSubrs at) r h = inr h
unread (reading.BadGlyphs at) r h = inr h
unread reading.Hybrid r h = inr h
unread reading.NoClosefile r h = inr h
unread reading.NoNotdef r h = inr h
unread reading.Limit r h = inr h
unread reading.Memory r h = inl refl

-- want of memory may be answered in place of what two files come to
pub files_wanting : (r s : Result FontValue ReadFault) (form : Form) (e : Refusal) → IsMemory e → FilesMergeTo r s form (Err e)
files_wanting (Err fault) s form e m = inl m
files_wanting (Ok g) (Err fault) form e m = inl m
files_wanting (Ok g) (Ok h) form e m = inl m

-- want of memory may be answered in place of what a font comes to
pub cuts_wanting : (o : Option (List ℕ)) (f : FontValue) (a b : List (List ℕ)) (form : Form) (e : Refusal) → IsMemory e → CutsMergeTo o f a b form (Err e)
cuts_wanting (Some n) f a b form e m = inl m
cuts_wanting None f a b form e m = files_wanting (read_font (file_of f a form)) (read_font (file_of f b form)) form e m

-- want of memory may be answered in place of what a file comes to
pub wanting : (r : Result FontValue ReadFault) (a b : List (List ℕ)) (form : Form) (e : Refusal) → IsMemory e → FileComesTo r a b form (Err e)
wanting (Err fault) a b form e m = inl m
wanting (Ok f) a b form e m = cuts_wanting (option_or (first_lacking f a) (first_lacking f b)) f a b form e m

-- the first of two files spells no font
pub first_unread : (e : ReadFault) (r s : Result FontValue ReadFault) (form : Form) → Refused e r → FilesMergeTo r s form (Err (Read e))
first_unread e r s form h = elim (unread e r h) [
  | inl m ↦ files_wanting r s form (Read e) m
  | inr x ↦ subst (λ (q : Result FontValue ReadFault). FilesMergeTo q s form (Err (Read e))) (sym x) (inr refl)
]

-- the second of two files spells no font
pub second_unread : (e : ReadFault) (r s : Result FontValue ReadFault) (form : Form) (g : FontValue) → r ≡ Ok g → Refused e s →
    FilesMergeTo r s form (Err (Read e))
second_unread e r s form g k h = elim (unread e s h) [
  | inl m ↦ files_wanting r s form (Read e) m
  | inr x ↦ subst (λ (p : Result FontValue ReadFault). FilesMergeTo p s form (Err (Read e))) (sym k)
      (subst (λ (q : Result FontValue ReadFault). FilesMergeTo (Ok g) q form (Err (Read e))) (sym x) (inr refl))
]

-- both files spell fonts
pub both_read : (r s : Result FontValue ReadFault) (form : Form) (g h : FontValue) (q : Result (Vec ℕ Global) Refusal) →
    r ≡ Ok g → s ≡ Ok h → MergeTo g h form q → FilesMergeTo r s form q
both_read r s form g h q k l m =
    subst (λ (p : Result FontValue ReadFault). FilesMergeTo p s form q) (sym k)
    (subst (λ (p : Result FontValue ReadFault). FilesMergeTo (Ok g) p form q) (sym l) m)

-- the file spells no font
pub file_unread : (e : ReadFault) (r : Result FontValue ReadFault) (a b : List (List ℕ)) (form : Form) → Refused e r → FileComesTo r a b form (Err (Read e))
file_unread e r a b form h = elim (unread e r h) [
  | inl m ↦ wanting r a b form (Read e) m
  | inr x ↦ subst (λ (q : Result FontValue ReadFault). FileComesTo q a b form (Err (Read e))) (sym x) (inr refl)
]

-- a name is lacking
lacked : (o : Option (List ℕ)) (f : FontValue) (a b : List (List ℕ)) (form : Form) (e : Refusal) → LacksFirst o e → CutsMergeTo o f a b form (Err e)
lacked o f a b form (Subset (subsetting.NoSuchGlyph n)) l =
    subst (λ (p : Option (List ℕ)). CutsMergeTo p f a b form (Err (Subset (subsetting.NoSuchGlyph n)))) (sym l) (inr refl)
lacked o f a b form (Subset subsetting.Memory) l = cuts_wanting o f a b form (Subset subsetting.Memory) refl
lacked o f a b form (Read x) l = absurd l
lacked o f a b form (Merge x) l = absurd l
lacked o f a b form Memory l = absurd l

-- a name of the first list is lacking
lacked_first : (o p : Option (List ℕ)) (f : FontValue) (a b : List (List ℕ)) (form : Form) (e : Refusal) → LacksFirst o e →
    CutsMergeTo (option_or o p) f a b form (Err e)
lacked_first (Some n) p f a b form e l = lacked (Some n) f a b form e l
lacked_first None p f a b form (Subset (subsetting.NoSuchGlyph n)) l = cc
lacked_first None p f a b form (Subset subsetting.Memory) l = cuts_wanting p f a b form (Subset subsetting.Memory) refl
lacked_first None p f a b form (Read x) l = absurd l
lacked_first None p f a b form (Merge x) l = absurd l
lacked_first None p f a b form Memory l = absurd l

-- the cut to the first list is refused
pub first_refused : (r : Result FontValue ReadFault) (f : FontValue) (a b : List (List ℕ)) (form : Form) (e : Refusal) → r ≡ Ok f →
    IsMemory e ⊎ LacksFirst (first_lacking f a) e
    → FileComesTo r a b form (Err e)
first_refused r f a b form e k h = subst (λ (q : Result FontValue ReadFault). FileComesTo q a b form (Err e)) (sym k) (elim h [
  | inl m ↦ wanting (Ok f) a b form e m
  | inr l ↦ lacked_first (first_lacking f a) (first_lacking f b) f a b form e l
])

-- what a font comes to that has all names of the first list
pub first_has : (r : Result FontValue ReadFault) (f : FontValue) (a b : List (List ℕ)) (form : Form) (q : Result (Vec ℕ Global) Refusal) →
    r ≡ Ok f → first_lacking f a ≡ None
    → CutsMergeTo (first_lacking f b) f a b form q → FileComesTo r a b form q
first_has r f a b form q k n m = subst (λ (p : Result FontValue ReadFault). FileComesTo p a b form q) (sym k)
    (subst (λ (o : Option (List ℕ)). CutsMergeTo (option_or o (first_lacking f b)) f a b form q) (sym n) m)

-- the cut to the second list is refused
pub second_refused : (r : Result FontValue ReadFault) (f : FontValue) (a b : List (List ℕ)) (form : Form) (e : Refusal) → r ≡ Ok f → first_lacking f a ≡ None
    → IsMemory e ⊎ LacksFirst (first_lacking f b) e → FileComesTo r a b form (Err e)
second_refused r f a b form e k n h = first_has r f a b form (Err e) k n (elim h [
  | inl m ↦ cuts_wanting (first_lacking f b) f a b form e m
  | inr l ↦ lacked (first_lacking f b) f a b form e l
])

-- both cuts are made
pub both_cut : (r : Result FontValue ReadFault) (f : FontValue) (a b : List (List ℕ)) (form : Form) (one other : List ℕ) (q : Result (Vec ℕ Global) Refusal) →
    r ≡ Ok f → first_lacking f a ≡ None → first_lacking f b ≡ None
    → one ≡ file_of f a form → other ≡ file_of f b form → FilesMergeTo (read_font one) (read_font other) form q → FileComesTo r a b form q
both_cut r f a b form one other q k n o e w m = first_has r f a b form q k n
    (subst (λ (p : Option (List ℕ)). CutsMergeTo p f a b form q) (sym o)
    (subst (λ (v : List ℕ). FilesMergeTo (read_font v) (read_font (file_of f b form)) form q) e
    (subst (λ (v : List ℕ). FilesMergeTo (read_font one) (read_font v) form q) w m)))

-- an answer of a merger, from its two sides
pub of_sides : (g h : FontValue) (r : Result FontValue Conflict) →
    IfOk r (λ j. Join profile g h × (j ≡ joined_font profile g h)) → IfErr r (λ e. Tells e (conflict profile g h)) → IsMerger g h r
of_sides g h (Ok j) o e = o
of_sides g h (Err x) o e = e
