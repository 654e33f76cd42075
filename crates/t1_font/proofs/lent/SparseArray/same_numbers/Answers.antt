use Rattle.std.{proofs.{Common.{◌≡◌, List, ℕ, map, refl, sym, ap, ◌∷◌, [], ◌∙◌}, lemmas.Map.Text.{is_eq-slice_cmp}}, specs.Ordering.{nat_cmp, is_eq}}
use Rattle.t1_join.specs.TableMeaning.{Rises}
use Rattle.t1_font.specs.{FontValue.{SparseArray, name_cmp}, declared.lent.SparseArrayForm.{SparseArrayForm}, declared.lent.SparseArrayForm.TheVariants.{Filled}, Lent.{filled_at, numbered_entries}}
use Rattle.std.specs.FinMap as fin
use Rattle.t1_font.proofs.lent.SparseArray.same_numbers.Goals as goal

keys_of : (own : SparseArray) (indices : List ℕ) → map (λ e. e.0) (map (filled_at own) indices) ≡ indices
keys_of own [] = refl
keys_of own (i ∷ is) = ap (λ (js : List ℕ). i ∷ js) (keys_of own is)

-- the numbers of a table that is filled are those of its list
keys_filled : (form : SparseArrayForm) (own : SparseArray) (indices : _) (m : SparseArray) → Rises nat_cmp (numbered_entries form) → form ≡ Filled own indices →
    fin.from_sorted {R = nat_cmp} (numbered_entries form) ≡ m → fin.keys m ≡ indices.now
keys_filled form own indices m rise is view =
    ap fin.keys (sym view)
    ∙ (ap (map (λ e. e.0)) (fin.entries-from_sorted nat_cmp (numbered_entries form) rise)
    ∙ (ap (λ (form : SparseArrayForm). map (λ e. e.0) (numbered_entries form)) is ∙ keys_of own indices.now))

pub returns-in-Filled-Filled : goal.returns-in-Filled-Filled
returns-in-Filled-Filled c =
    let both = c.in-Filled-Filled in
    let left = keys_filled c.self.inside.form both.own-0 both.indices c.args.self.now c.self.invariant both.is-0 c.self.view_is in
    let right = keys_filled c.other.inside.form both.own-1 both.others c.args.other.now c.other.invariant both.is-1 c.other.view_is in
    c.eq.ensures ∙ (sym (is_eq-slice_cmp both.indices.now both.others.now) ∙ (λ i. is_eq (name_cmp (sym left i) (sym right i))))
