-- Codes: rows that are computed, a list that is read from its front, and the names of codes.
use Rattle.std.proofs.Common.{◌≡◌, ◌<◌, ◌+◌, ◌-◌, ℕ, suc, arith, refl, sym, ◌∙◌, ap, List, [], ◌∷◌, ◌++◌, length, cond, Bool, true, false, ◌==◌, Option, Some, None, Result, Ok, append_assoc}
use Rattle.std.proofs.lemmas.List.{append-nil}
use Rattle.std.specs.{Prelude.{codes, option_and_then}, Option.{option_map}}
use Rattle.t1_join.specs.ListingText.{split_at, with_digit}
use Rattle.t1_font.specs.FontValue.{Encoding}
use Rattle.t1_cmd.specs.{declared.faults.Reason.{Reason}, Answers.{if_there}, Subsets.{subset_answer, names_with, SubsetWithoutCodes}}
use Rattle.t1_cmd.specs.CodeLists.{codes_from, codes_between, ends_of, onto_first, words_of, codes_in, codes_listed}

-- ---- rows

one_code : codes_listed (codes "97") ≡ Some (97 ∷ [])
one_code = refl

with_noughts : codes_listed (codes "007,0") ≡ Some (7 ∷ 0 ∷ [])
with_noughts = refl

in_order : codes_listed (codes "97,65-67,65-65") ≡ Some (97 ∷ 65 ∷ 66 ∷ 67 ∷ 65 ∷ [])
in_order = refl

to_the_last : codes_listed (codes "254-255") ≡ Some (254 ∷ 255 ∷ [])
to_the_last = refl

nothing : codes_listed [] ≡ None
nothing = refl

too_large : codes_listed (codes "65-256") ≡ None
too_large = refl

downwards : codes_listed (codes "66-65") ≡ None
downwards = refl

no_end : codes_listed (codes "65-") ≡ None
no_end = refl

two_ends : codes_listed (codes "65-66-67") ≡ None
two_ends = refl

no_word : codes_listed (codes "65,,66") ≡ None
no_word = refl

behind_the_last : codes_listed (codes "65,") ≡ None
behind_the_last = refl

four_digits : codes_listed (codes "0065") ≡ None
four_digits = refl

blank : codes_listed (codes "65 ,66") ≡ None
blank = refl

-- ---- from the front

-- a text with a comma has the word before it, and the words behind it
abbrev pub words_by : List ℕ → Option (List ℕ × List ℕ) → List (List ℕ)
words_by text None = text ∷ []
words_by text (Some parts) = parts.0 ∷ words_of parts.1

-- one more byte at the front
front_by : (b : ℕ) (bs : List ℕ) (parts : Option (List ℕ × List ℕ)) → onto_first b (words_by bs parts) ≡ words_by (b ∷ bs) (option_map (with_digit b) parts)
front_by b bs None = refl
front_by b bs (Some parts) = refl

-- the words of a text by its first comma
pub words_split : (text : List ℕ) → words_of text ≡ words_by text (split_at 44 text)
words_split [] = refl
words_split (b ∷ bs) = by (b == 44) (words_split bs)
  where
    by : (t : Bool) → words_of bs ≡ words_by bs (split_at 44 bs) → cond t ([] ∷ words_of bs) (onto_first b (words_of bs))
        ≡ words_by (b ∷ bs) (cond t (Some ([], bs)) (option_map (with_digit b) (split_at 44 bs)))
    by true h = refl
    by false h = ap (onto_first b) h ∙ front_by b bs (split_at 44 bs)

-- what stands behind a comma is shorter than the text
pub shorter : (c : ℕ) (text : List ℕ) (parts : List ℕ × List ℕ) → split_at c text ≡ Some parts → length parts.1 < length text
shorter c [] parts h = cc
shorter c (b ∷ bs) parts h = by (b == c) (split_at c bs) (shorter c bs) h
  where
    by : (t : Bool) (o : Option (List ℕ × List ℕ)) → ((ps : List ℕ × List ℕ) → o ≡ Some ps → length ps.1 < length bs)
        → cond t (Some ([], bs)) (option_map (with_digit b) o) ≡ Some parts → length parts.1 < suc (length bs)
    by true o ih h =
        let e : parts ≡ ([], bs) = cc in
        omega (arith, ap (λ (ps : List ℕ × List ℕ). length ps.1) e)
    by false None ih h = cc
    by false (Some ps) ih h =
        let e : parts ≡ with_digit b ps = cc in
        omega (arith, ap (λ (qs : List ℕ × List ℕ). length qs.1) e, ih ps refl)

-- the code before an end, and then those behind it
pub code_more : (codes : List ℕ) (code end : ℕ) → code < end
    → (codes ++ code ∷ []) ++ codes_from (code + 1) (end - (code + 1)) ≡ codes ++ codes_from code (end - code)
code_more codes code end l =
    let more : suc (end - (code + 1)) ≡ end - code = omega (arith, l) in
    append_assoc codes (code ∷ []) (codes_from (code + 1) (end - (code + 1))) ∙ ap (λ n. codes ++ codes_from code n) more

-- what codes and those of words make
abbrev pub with_codes : List ℕ → Option (List ℕ) → Option (List ℕ)
with_codes done more = option_map (λ codes. done ++ codes) more

-- a word whose codes are read, before others
read_word : (done : List ℕ) (ends : ℕ × ℕ) (rest : Option (List ℕ))
    → with_codes (done ++ codes_between ends) rest ≡ with_codes done (option_map (λ more. codes_between ends ++ more) rest)
read_word done ends None = refl
read_word done ends (Some more) = ap {B = Option (List ℕ)} (λ (codes : List ℕ). Some codes) (append_assoc done (codes_between ends) more)

-- the codes of a text with a comma, where the word before it is read
pub word_more : (done text : List ℕ) (parts : List ℕ × List ℕ) (ends : ℕ × ℕ)
    → split_at 44 text ≡ Some parts → ends_of parts.0 ≡ Some ends
    → with_codes (done ++ codes_between ends) (codes_listed parts.1) ≡ with_codes done (codes_listed text)
word_more done text parts ends h e =
    read_word done ends (codes_listed parts.1)
    ∙ (ap (λ o. with_codes done (option_and_then (λ r. option_map (λ more. codes_between r ++ more) (codes_listed parts.1)) o)) (sym e)
    ∙ ap (λ ws. with_codes done (codes_in ws)) (sym (ap (words_by text) h) ∙ sym (words_split text)))

-- the codes of a text without a comma, which is a word
pub word_last : (done text : List ℕ) (ends : ℕ × ℕ) → split_at 44 text ≡ None → ends_of text ≡ Some ends
    → Some (done ++ codes_between ends) ≡ with_codes done (codes_listed text)
word_last done text ends h e =
    ap {B = Option (List ℕ)} (λ (codes : List ℕ). Some (done ++ codes)) (sym (append-nil (codes_between ends)))
    ∙ (ap (λ o. with_codes done (option_and_then (λ r. option_map (λ more. codes_between r ++ more) (Some [])) o)) (sym e)
    ∙ ap (λ ws. with_codes done (codes_in ws)) (sym (ap (words_by text) h) ∙ sym (words_split text)))

-- a text whose first word has no codes has none
pub word_bad : (done text : List ℕ) (parts : List ℕ × List ℕ) → split_at 44 text ≡ Some parts → ends_of parts.0 ≡ None
    → None ≡ with_codes done (codes_listed text)
word_bad done text parts h e =
    ap (λ o. with_codes done (option_and_then (λ r. option_map (λ more. codes_between r ++ more) (codes_listed parts.1)) o)) (sym e)
    ∙ ap (λ ws. with_codes done (codes_in ws)) (sym (ap (words_by text) h) ∙ sym (words_split text))

-- a word that has no codes
pub last_bad : (done text : List ℕ) → split_at 44 text ≡ None → ends_of text ≡ None → None ≡ with_codes done (codes_listed text)
last_bad done text h e =
    ap (λ o. with_codes done (option_and_then (λ r. option_map (λ more. codes_between r ++ more) (Some [])) o)) (sym e)
    ∙ ap (λ ws. with_codes done (codes_in ws)) (sym (ap (words_by text) h) ∙ sym (words_split text))

-- ---- names of codes

-- without codes, the names are all
pub names_alone : (encoding : Encoding) (names : List (List ℕ)) → names_with encoding names [] ≡ Ok names
names_alone encoding names = ap {B = Result (List (List ℕ)) Reason} (λ (all : List (List ℕ)). Ok all) (append-nil names)

-- the subset without codes is that of the names
pub without_codes : SubsetWithoutCodes
without_codes form names f = ap (if_there (λ all. subset_answer form all f)) (names_alone f.encoding names)
