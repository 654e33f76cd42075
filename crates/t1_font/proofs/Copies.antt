-- What the entries of an Encoding put, copies among them.
use Rattle.std.proofs.{Common.{◌≡◌, ℕ, zero, suc, List, [], ◌∷◌, ◌++◌, refl, sym, ap, ◌∙◌, append_assoc}, lemmas.List.{append-nil}}
use Rattle.std.specs.{Prelude.{map, unwrap_or}, Ordering.{nat_cmp}, Cmp.{nat_cmp_total}, FinSet.{nat_cmp-IsAntisymmetric}, FinMap.{insert}}
use Rattle.t1_font.specs.FontValue.{SparseArray, notdef}
use Rattle.t1_text.specs.{Encoding.{CodeEntry, Put, Copy, name_after, copied, put_by, puts_after, puts_of}, Entries.{map_of}}
use Rattle.t1_font.specs.Gathering.{gathered_name, copied_names, named_from, kept_by}
use Rattle.t1_font.proofs.HeldLemmas.{one_code_more}
use Rattle.t1_text.proofs.MapLaws.{get-map_of}

-- ---- entries in turn

-- one more entry puts its own behind those before it
pub puts_push : (puts : List (ℕ × List ℕ)) (es : List CodeEntry) (e : CodeEntry) →
    puts_after puts (es ++ e ∷ []) ≡ puts_after puts es ++ put_by (puts_after puts es) e
puts_push puts [] e = refl
puts_push puts (f ∷ es) e = puts_push (puts ++ put_by puts f) es e

-- entries that put one name each are the puts
pub puts_plain : (puts es : List (ℕ × List ℕ)) → puts_after puts (map (λ e. Put e.0 e.1) es) ≡ puts ++ es
puts_plain puts [] = sym (append-nil puts)
puts_plain puts (e ∷ es) = puts_plain (puts ++ e ∷ []) es ∙ append_assoc puts (e ∷ []) es

-- names that are copied are those of the puts before
copies_kept : (n from to : ℕ) (old now : SparseArray) (before puts : List (ℕ × List ℕ)) → old ≡ map_of before → now ≡ map_of puts →
    named_from now to (copied_names old from n) ≡ map_of (puts ++ copied before from n to)
copies_kept zero from to old now before puts o h = h ∙ ap (map_of {R = nat_cmp}) (sym (append-nil puts))
copies_kept (suc n) from to old now before puts o h =
    let put : ℕ × List ℕ = (to, name_after before from) in
    let name : gathered_name old from ≡ name_after before from =
    ap (λ m. gathered_name m from) o ∙ ap (λ x. unwrap_or x notdef) (get-map_of nat_cmp_total nat_cmp-IsAntisymmetric before from) in
    let one : insert now to (gathered_name old from) ≡ map_of (puts ++ put ∷ []) = one_code_more puts put now _ (ap (insert now to) name) h in
    copies_kept n (suc from) (suc to) old (insert now to (gathered_name old from)) before (puts ++ put ∷ []) o one
    ∙ ap (map_of {R = nat_cmp}) (append_assoc puts (put ∷ []) (copied before (suc from) n (suc to)))

-- what one entry puts is held with what is held before
entry_kept : (e : CodeEntry) (puts : List (ℕ × List ℕ)) (codes : SparseArray) → codes ≡ map_of puts → kept_by codes e ≡ map_of (puts ++ put_by puts e)
entry_kept (Put c n) puts codes h = one_code_more puts (c, n) codes _ refl h
entry_kept (Copy from count to) puts codes h = copies_kept count from to codes codes puts puts h h

-- one more entry
pub one_entry_more : (es : List CodeEntry) (e : CodeEntry) (codes next : SparseArray) → next ≡ kept_by codes e → codes ≡ map_of (puts_of es) →
    next ≡ map_of (puts_of (es ++ e ∷ []))
one_entry_more es e codes next kept h = kept ∙ (entry_kept e (puts_of es) codes h ∙ ap (map_of {R = nat_cmp}) (sym (puts_push [] es e)))
