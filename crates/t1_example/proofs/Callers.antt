-- What the calls of a caller answer where the font of its file can be cut.
use Rattle.std.proofs.Common.{◌≡◌, ℕ, Bool, true, false, not, cond, ◌||◌, inl, inr, List, [], ◌∷◌, refl, sym, ◌∙◌, ap, subst, Option, Some, None, Result, Ok, Err, MatchResult, IfOk, Vec, Global}
use Rattle.std.proofs.lemmas.Bool.{or_left, or_right, not_from_true}
use Rattle.std.specs.{Cmp.Lexicographic.{nat_list_cmp_total}, List.{list_any, find}, Ordering.{eq_by_cmp}}
use Rattle.t1_bytes.specs.{declared.form.Form.{Form}, declared.form.Form.TheVariants.{Pfa, Pfb}}
use Rattle.t1_font.specs.{declared.fault.ReadFault.{ReadFault}, Answers.{Refused}, Canon.{canon, Fits}, FontValue.{FontValue, name_cmp}, IsFont.{IsFont}, ReadFont.{read_font}, Spelling.{Spells}}
use Rattle.t1_text.specs.Dialect.{strict}
use Rattle.t1_font.proofs.{Spelled.{reads_again, one_font}, canonical.RoundTrip.{round_trip}}
use Rattle.t1_subset.specs.{declared.fault.SubsetFault.{SubsetFault}, Refusals.{Absent}, declared.conflict.Conflict.{Conflict}, Merger.{MergesSubsets}}
use Rattle.t1_algebra.specs.{Interpreter.{Names}, Keep.{has, keep, subset, IsOf}, Laws.{AnswersAlike}, Profile.{profile}}
use Rattle.t1_algebra.proofs.{Fonts.{subset_is_font}, Sets.{name_same, itself, in_list, from_in_list, in_union}, Drawings.{subset_alike, answers_alike}}
use Rattle.t1_example.{specs.{declared.refusal.Refusal.{Refusal}, Joining.{CanBeCut, union_subset}, Refusals.{IsMemory}}, proofs.Outcomes.{unread}}
use Rattle.std.specs.FinSet as sets
use Rattle.t1_font.specs.declared.fault.ReadFault.TheVariants as reading
use Rattle.t1_subset.specs.declared.fault.SubsetFault.TheVariants as subsetting

-- a subset begins as its font does
pub cut_fits : (form : Form) (f : FontValue) (a : Names) → Fits form f → Fits form (subset profile f a)
cut_fits Pfa f a k = k
cut_fits Pfb f a k = k

clash : {A E : Type 0} (P : Type 0) (r : Result A E) (x : A) (e : E) → r ≡ Ok x → r ≡ Err e → P
clash P r x e a b = cc

-- a file that is read is refused for want of memory alone
pub only_memory : (r : Result FontValue ReadFault) (f : FontValue) (e : ReadFault) → r ≡ Ok f → Refused e r → e ≡ reading.Memory
only_memory r f e a b = elim (unread e r b) [ inl m ↦ m | inr x ↦ clash _ r f e a x ]

-- where a font has all names, none is absent
all_present : (f : FontValue) (ns : List (List ℕ)) → IsOf f (sets.from_list ns) → find (λ n. not (has f n)) ns ≡ None
all_present f [] i = refl
all_present f (n ∷ ns) i =
    let first : list_any (eq_by_cmp name_cmp n) (n ∷ ns) ≡ true = or_left _ _ (itself nat_list_cmp_total name_same n) in
    ap (λ b. cond b (Some n) (find (λ n. not (has f n)) ns)) (not_from_true (has f n) (i n (from_in_list nat_list_cmp_total name_same (n ∷ ns) n first)))
    ∙ all_present f ns (λ q w. i q (from_in_list nat_list_cmp_total name_same (n ∷ ns) q (or_right _ _ (in_list nat_list_cmp_total name_same ns q w))))

-- where a font has all names, it is cut, or memory is wanted
pub none_lacking : (f : FontValue) (ns : List (List ℕ)) (e : SubsetFault) →
    IsOf f (sets.from_list ns) → Absent e (find (λ n. not (has f n)) ns) → e ≡ subsetting.Memory
none_lacking f ns (subsetting.NoSuchGlyph n) i h = absurd (none_some (sym (all_present f ns i) ∙ h))
  where
    none_some : {A : Type 0} {x : A} → ◌≡◌ {A = Option A} None (Some x) → ⊥
    none_some e = cc
none_lacking f ns subsetting.Memory i h = refl

or_flip : (a b : Bool) → (b || a) ≡ (a || b)
or_flip true true = refl
or_flip true false = refl
or_flip false true = refl
or_flip false false = refl

-- the names of both sets, in either order
pub swapped : (a b : Names) → sets.union b a ≡ sets.union a b
swapped a b = sets.same_set nat_list_cmp_total name_same _ _
    (λ n. sets.contains-union nat_list_cmp_total b a n ∙ or_flip (sets.contains a n) (sets.contains b n) ∙ sym (sets.contains-union nat_list_cmp_total a b n))

pub of_both : (f : FontValue) (a b : Names) → IsOf f a → IsOf f b → IsOf f (sets.union a b)
of_both f a b i k n w = elim (in_union nat_list_cmp_total name_same a b n w) [ inl x ↦ i n x | inr y ↦ k n y ]

same_read : (x y : FontValue) (r : Result FontValue ReadFault) → r ≡ Ok x → r ≡ Ok y → x ≡ y
same_read x y r a b = cc

-- what is read of a font's own file is the font
pub read_back : (file : List ℕ) (cut again : FontValue) → read_font file ≡ Ok cut → read_font file ≡ Ok again → again ≡ cut
read_back file cut again a b = sym (same_read cut again (read_font file) a b)

-- the font of the file is the one that can be cut
pub the_font : (file : List ℕ) (a b : Names) (form : Form) (f g : FontValue) → CanBeCut file a b form f → Spells file g → g ≡ f
the_font file a b form f g c s = one_font strict file g f s c.spelled

-- what two subsets come to, merged in the other order
pub turned : (g h : FontValue) (r : Result FontValue Conflict) → MergesSubsets h g r → MergesSubsets g h r
turned g h (Ok j) m f w a b i k eg eh = m f w b a k i eh eg ∙ ap (subset profile f) (swapped a b)
turned g h (Err e) m f w a b i k eg eh = m f w b a k i eh eg

-- of what is read of the file, what is asked of its font
pub record Readable (a b : Names) (form : Form) (f g : FontValue) : Type 0 where
  pub is : g ≡ f
  pub first : IsOf g a
  pub second : IsOf g b
  pub fits : Fits form g

pub readable : (file : List ℕ) (a b : Names) (form : Form) (f g : FontValue) → CanBeCut file a b form f → Spells file g → Readable a b form f g
readable file a b form f g c s =
    let e = the_font file a b form f g c s in
    record {
      is = e;
      first = subst (λ (j : FontValue). IsOf j a) (sym e) c.first;
      second = subst (λ (j : FontValue). IsOf j b) (sym e) c.second;
      fits = subst (λ (j : FontValue). Fits form j) (sym e) c.fits;
    }

-- what a file that can be cut is refused for
pub file_refused : (file : List ℕ) (a b : Names) (form : Form) (f : FontValue) (e : ReadFault) →
    CanBeCut file a b form f → Refused e (read_font file) → e ≡ reading.Memory
file_refused file a b form f e c r = only_memory (read_font file) f e (reads_again strict file f c.spelled) r

-- what a font's own file spells is the font
pub of_file : (file : List ℕ) (cut g : FontValue) (form : Form) → IsFont cut → Fits form cut → file ≡ canon cut form → Spells file g → g ≡ cut
of_file file cut g form h k e s =
    same_read g cut (read_font file) (reads_again strict file g s) (subst (λ (v : List ℕ). read_font v ≡ Ok cut) (sym e) (round_trip cut form h k))

pub moved : (f cut g : FontValue) (n : List ℕ) → g ≡ cut → AnswersAlike f cut n → AnswersAlike f g n
moved f cut g n e a = subst (λ (j : FontValue). AnswersAlike f j n) (sym e) a

-- each kept glyph is answered for alike in what the file of a subset spells
pub answered : (file : List ℕ) (f : FontValue) (s : Names) (form : Form) → IsFont f → IsOf f s → Fits form f → file ≡ canon (subset profile f s) form
    → (g : FontValue) (n : List ℕ) → Spells file g → sets.contains (keep profile f s) n ≡ true → AnswersAlike f g n
answered file f s form h i k e g n sp w =
    let cut = subset_is_font profile f h s i in
    moved f (subset profile f s) g n (of_file file (subset profile f s) g form cut (cut_fits form f s k) e sp)
    (answers_alike f (subset profile f s) h cut n (subset_alike f h s i n w))

-- the drawings of the joined file, where there is one
pub drawn : (r : Result (Vec ℕ Global) Refusal) (f : FontValue) (a b : Names) (form : Form) → IsFont f → IsOf f a → IsOf f b → Fits form f
    → MatchResult r (λ (v : Vec ℕ Global). v.items ≡ canon (union_subset f a b) form) IsMemory
    → IfOk r (λ (v : Vec ℕ Global).
    (g : FontValue) (n : List ℕ) → Spells v.items g → sets.contains (keep profile f (sets.union a b)) n ≡ true → AnswersAlike f g n)
drawn (Ok v) f a b form h i j k e = λ g n s w. answered v.items f (sets.union a b) form h (of_both f a b i j) k e g n s w
drawn (Err x) f a b form h i j k e = tt
