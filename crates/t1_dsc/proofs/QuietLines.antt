-- Lines of other documents, quieted: read again, none of them is structure.
use Rattle.std.proofs.Common.{◌≡◌, ℕ, Bool, true, false, List, ◌∷◌, ◌++◌, None, refl, sym, subst, inl, inr}
use Rattle.std.proofs.lemmas.Bool.{cases_Bool}
use Rattle.std.specs.Prelude.{◌||◌, codes}
use Rattle.t1_document.specs.{Marks.{begins_with, kind_of, mark_of}}
use Rattle.t1_dsc.specs.{declared.lines.Role.TheVariants.{Text}}
use Rattle.t1_dsc.specs.Structure.{is_structure, role_of, same_role}
use Rattle.t1_dsc.proofs.{Words.{word_first, neither_mark, no_kind, begin_no_mark, end_no_mark}}

-- ---- lines that are structure

-- a line that is no mark, and begins with `%`
pub record Plain (t : List ℕ) : Type 0 where
  pub mark : mark_of t ≡ None
  pub inner : List ℕ
  pub starts : t ≡ 37 ∷ inner

plain_word : (w : List ℕ) → ((rest : List ℕ) → mark_of (37 ∷ (w ++ rest)) ≡ None) → (t : List ℕ) → begins_with (37 ∷ w) t ≡ true → Plain t
plain_word w none t h =
    let x = word_first (37 ∷ w) t h in
    subst Plain (sym x.1) (record { mark = none x.0; inner = w ++ x.0; starts = refl })

begin_word : (w : List ℕ) → ((rest : List ℕ) → kind_of (w ++ rest) ≡ None) → (t : List ℕ) → begins_with (codes "%%Begin" ++ w) t ≡ true → Plain t
begin_word w none = plain_word (codes "%Begin" ++ w) (λ rest. begin_no_mark (w ++ rest) (none rest))

end_word : (w : List ℕ) → ((rest : List ℕ) → kind_of (w ++ rest) ≡ None) → (t : List ℕ) → begins_with (codes "%%End" ++ w) t ≡ true → Plain t
end_word w none = plain_word (codes "%End" ++ w) (λ rest. end_no_mark (w ++ rest) (none rest))

page_plain : (t : List ℕ) → begins_with (codes "%%Page:") t ≡ true → Plain t
page_plain = plain_word (codes "%Page:") (λ rest. neither_mark (codes "%%Page:" ++ rest) refl refl)

trailer_plain : (t : List ℕ) → begins_with (codes "%%Trailer") t ≡ true → Plain t
trailer_plain = plain_word (codes "%Trailer") (λ rest. neither_mark (codes "%%Trailer" ++ rest) refl refl)

eof_plain : (t : List ℕ) → begins_with (codes "%%EOF") t ≡ true → Plain t
eof_plain = plain_word (codes "%EOF") (λ rest. neither_mark (codes "%%EOF" ++ rest) refl refl)

endpagesetup_plain : (t : List ℕ) → begins_with (codes "%%EndPageSetup") t ≡ true → Plain t
endpagesetup_plain = end_word (codes "PageSetup") (λ rest. no_kind (codes "PageSetup" ++ rest) refl refl refl refl refl refl)

pages_plain : (t : List ℕ) → begins_with (codes "%%Pages:") t ≡ true → Plain t
pages_plain = plain_word (codes "%Pages:") (λ rest. neither_mark (codes "%%Pages:" ++ rest) refl refl)

endcomments_plain : (t : List ℕ) → begins_with (codes "%%EndComments") t ≡ true → Plain t
endcomments_plain = end_word (codes "Comments") (λ rest. no_kind (codes "Comments" ++ rest) refl refl refl refl refl refl)

begindefaults_plain : (t : List ℕ) → begins_with (codes "%%BeginDefaults") t ≡ true → Plain t
begindefaults_plain = begin_word (codes "Defaults") (λ rest. no_kind (codes "Defaults" ++ rest) refl refl refl refl refl refl)

enddefaults_plain : (t : List ℕ) → begins_with (codes "%%EndDefaults") t ≡ true → Plain t
enddefaults_plain = end_word (codes "Defaults") (λ rest. no_kind (codes "Defaults" ++ rest) refl refl refl refl refl refl)

beginprolog_plain : (t : List ℕ) → begins_with (codes "%%BeginProlog") t ≡ true → Plain t
beginprolog_plain = begin_word (codes "Prolog") (λ rest. no_kind (codes "Prolog" ++ rest) refl refl refl refl refl refl)

endprolog_plain : (t : List ℕ) → begins_with (codes "%%EndProlog") t ≡ true → Plain t
endprolog_plain = end_word (codes "Prolog") (λ rest. no_kind (codes "Prolog" ++ rest) refl refl refl refl refl refl)

beginsetup_plain : (t : List ℕ) → begins_with (codes "%%BeginSetup") t ≡ true → Plain t
beginsetup_plain = begin_word (codes "Setup") (λ rest. no_kind (codes "Setup" ++ rest) refl refl refl refl refl refl)

endsetup_plain : (t : List ℕ) → begins_with (codes "%%EndSetup") t ≡ true → Plain t
endsetup_plain = end_word (codes "Setup") (λ rest. no_kind (codes "Setup" ++ rest) refl refl refl refl refl refl)

beginpagesetup_plain : (t : List ℕ) → begins_with (codes "%%BeginPageSetup") t ≡ true → Plain t
beginpagesetup_plain = begin_word (codes "PageSetup") (λ rest. no_kind (codes "PageSetup" ++ rest) refl refl refl refl refl refl)

-- one of two tests
plain_or : (t : List ℕ) (a b : Bool) → (a ≡ true → Plain t) → (b ≡ true → Plain t) → (a || b) ≡ true → Plain t
plain_or t true b f g h = f refl
plain_or t false b f g h = g h

-- the first of the words of structure, one more in each
abbrev tests_2 : List ℕ → Bool
tests_2 t = begins_with (codes "%%Pages:") t || begins_with (codes "%%EndComments") t

plain_2 : (t : List ℕ) → tests_2 t ≡ true → Plain t
plain_2 t = plain_or t (begins_with (codes "%%Pages:") t) (begins_with (codes "%%EndComments") t) (pages_plain t) (endcomments_plain t)

abbrev tests_3 : List ℕ → Bool
tests_3 t = tests_2 t || begins_with (codes "%%BeginDefaults") t

plain_3 : (t : List ℕ) → tests_3 t ≡ true → Plain t
plain_3 t = plain_or t (tests_2 t) (begins_with (codes "%%BeginDefaults") t) (plain_2 t) (begindefaults_plain t)

abbrev tests_4 : List ℕ → Bool
tests_4 t = tests_3 t || begins_with (codes "%%EndDefaults") t

plain_4 : (t : List ℕ) → tests_4 t ≡ true → Plain t
plain_4 t = plain_or t (tests_3 t) (begins_with (codes "%%EndDefaults") t) (plain_3 t) (enddefaults_plain t)

abbrev tests_5 : List ℕ → Bool
tests_5 t = tests_4 t || begins_with (codes "%%BeginProlog") t

plain_5 : (t : List ℕ) → tests_5 t ≡ true → Plain t
plain_5 t = plain_or t (tests_4 t) (begins_with (codes "%%BeginProlog") t) (plain_4 t) (beginprolog_plain t)

abbrev tests_6 : List ℕ → Bool
tests_6 t = tests_5 t || begins_with (codes "%%EndProlog") t

plain_6 : (t : List ℕ) → tests_6 t ≡ true → Plain t
plain_6 t = plain_or t (tests_5 t) (begins_with (codes "%%EndProlog") t) (plain_5 t) (endprolog_plain t)

abbrev tests_7 : List ℕ → Bool
tests_7 t = tests_6 t || begins_with (codes "%%BeginSetup") t

plain_7 : (t : List ℕ) → tests_7 t ≡ true → Plain t
plain_7 t = plain_or t (tests_6 t) (begins_with (codes "%%BeginSetup") t) (plain_6 t) (beginsetup_plain t)

abbrev tests_8 : List ℕ → Bool
tests_8 t = tests_7 t || begins_with (codes "%%EndSetup") t

plain_8 : (t : List ℕ) → tests_8 t ≡ true → Plain t
plain_8 t = plain_or t (tests_7 t) (begins_with (codes "%%EndSetup") t) (plain_7 t) (endsetup_plain t)

abbrev tests_9 : List ℕ → Bool
tests_9 t = tests_8 t || begins_with (codes "%%BeginPageSetup") t

plain_9 : (t : List ℕ) → tests_9 t ≡ true → Plain t
plain_9 t = plain_or t (tests_8 t) (begins_with (codes "%%BeginPageSetup") t) (plain_8 t) (beginpagesetup_plain t)

structure_plain : (t : List ℕ) → is_structure t ≡ true → Plain t
structure_plain t = plain_9 t

-- a line that is not text where nothing is open
pub role_plain : (t : List ℕ) → same_role Text (role_of t) ≡ false → Plain t
unfolding role_of
role_plain t h = elim (cases_Bool (begins_with (codes "%%Page:") t)) [
  | inl e ↦ page_plain t e
  | inr e ↦ elim (cases_Bool (begins_with (codes "%%Trailer") t || begins_with (codes "%%EOF") t)) [
    | inl f ↦ plain_or t (begins_with (codes "%%Trailer") t) (begins_with (codes "%%EOF") t) (trailer_plain t) (eof_plain t) f
    | inr f ↦ elim (cases_Bool (begins_with (codes "%%EndPageSetup") t)) [
      | inl g ↦ endpagesetup_plain t g
      | inr g ↦ elim (cases_Bool (is_structure t)) [
        | inl k ↦ structure_plain t k
        | inr k ↦ let text : same_role Text (role_of t) ≡ true = rw (e, f, g, k) refl in absurd cc
      ]
    ]
  ]
]
