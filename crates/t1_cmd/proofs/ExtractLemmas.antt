-- The first font of a name in documents.
use Rattle.std.proofs.{Common.{◌≡◌, ℕ, Bool, true, false, cond, List, [], ◌∷◌, ◌++◌, Some, None, Result, Ok, Err, refl, sym, ap, subst, ◌∙◌}, lemmas.Bool.{cond-false, le-ltb}}
use Rattle.std.specs.{List.{find, AllByRecursion}, Str.{bytes_eq}, Prelude.{nat_lt, length}}
use Rattle.t1_bytes.specs.{Limits.{file_limit}, declared.form.Form.TheVariants.{Pfa}}
use Rattle.t1_font.specs.{declared.fault.ReadFault.{ReadFault}, FontValue.{FontValue}, ReadFont.{read_font_widely}}
use Rattle.t1_font.specs.UntestedFonts.{untested_font}
use Rattle.t1_document.{specs.{Documents.{Place, document_of}, Laws.{SpellsPlace}, Joins.{places_of_all}}, proofs.Spelled.{places_spell}}
use Rattle.t1_cmd.specs.{declared.faults.Reason.{Reason}, Answers.{with_reason, if_there, MayRefuse}, Fonts.{font_reason, file_answer}, Extracts.{first_named, ExtractsTo, TakesOutMended}}
use Rattle.t1_cmd.proofs.Refusals.{by_answer}

-- ---- places that spell fonts

both_have : (P : Place → Type 0) (ps qs : List Place) → AllByRecursion P ps → AllByRecursion P qs → AllByRecursion P (ps ++ qs)
both_have P [] qs a b = b
both_have P (p ∷ ps) qs a b = (a.0, both_have P ps qs a.1 b)

-- each place of documents spells a font
all_spell : (ds : List (List ℕ)) → AllByRecursion SpellsPlace (places_of_all ds)
all_spell [] = tt
all_spell (d ∷ ds) = both_have SpellsPlace (document_of d).places (places_of_all ds) (places_spell d) (all_spell ds)

-- what is found among some has what all have
found_has : (P : Place → Type 0) (test : Place → Bool) (ps : List Place) (p : Place) → AllByRecursion P ps → find test ps ≡ Some p → P p
found_has P test [] p all e = cc
found_has P test (q ∷ ps) p all e = by (test q) (λ k. found_has P test ps p all.1 k) e
  where
    by : (b : Bool) → (find test ps ≡ Some p → P p) → cond b (Some q) (find test ps) ≡ Some p → P p
    by true rest k = let same : q ≡ p = cc in subst P same all.0
    by false rest k = rest k

-- ---- the first place of a name

-- the first of places behind others that don't have the name
pub first_behind : (name : List ℕ) (ps qs : List Place) → first_named name ps ≡ None → first_named name (ps ++ qs) ≡ first_named name qs
first_behind name [] qs none = refl
first_behind name (p ∷ ps) qs none = by (bytes_eq p.name name) (λ k. first_behind name ps qs k) none
  where
    by : (b : Bool) → (first_named name ps ≡ None → first_named name (ps ++ qs) ≡ first_named name qs) → cond b (Some p) (first_named name ps) ≡ None →
        cond b (Some p) (first_named name (ps ++ qs)) ≡ first_named name qs
    by true rest k = cc
    by false rest k = rest k

-- the first of some is the first of them and of others behind them
pub first_before : (name : List ℕ) (ps qs : List Place) (p : Place) → first_named name ps ≡ Some p → first_named name (ps ++ qs) ≡ Some p
first_before name [] qs p some = cc
first_before name (q ∷ ps) qs p some = by (bytes_eq q.name name) (λ k. first_before name ps qs p k) some
  where
    by : (b : Bool) → (first_named name ps ≡ Some p → first_named name (ps ++ qs) ≡ Some p) → cond b (Some q) (first_named name ps) ≡ Some p →
        cond b (Some q) (first_named name (ps ++ qs)) ≡ Some p
    by true rest k = k
    by false rest k = rest k

-- ---- its font

-- the font of a place that was found can be read: a refusal is want of memory
pub read_or_memory : (name : List ℕ) (ds : List (List ℕ)) (p : Place) (r : Reason) → first_named name (places_of_all ds) ≡ Some p →
    MayRefuse (λ a. a ≡ with_reason font_reason (read_font_widely p.text)) r → MayRefuse (ExtractsTo name ds) r
read_or_memory name ds p r found =
    let spells = found_has SpellsPlace (λ q. bytes_eq q.name name) (places_of_all ds) p (all_spell ds) found in
    by_answer (λ a. a ≡ with_reason font_reason (read_font_widely p.text)) (MayRefuse (ExtractsTo name ds)) r tt (λ s h. never s spells h)
  where
    never : (s : Reason) → SpellsPlace p → Err s ≡ with_reason font_reason (read_font_widely p.text) → MayRefuse (ExtractsTo name ds) s
    never s spells h = absurd (unread s spells.font (h ∙ ap (λ (x : Result FontValue ReadFault). with_reason font_reason x) spells.spelled))
      where
        unread : (s : Reason) (f : FontValue) → ◌≡◌ {A = Result FontValue Reason} (Err s) (Ok f) → ⊥
        unread s f e = cc

-- what is taken out is what the font text is mended to
pub takes_out_mended : TakesOutMended
takes_out_mended p text le out =
    ap (if_there (file_answer Pfa)) (cond-false (nat_lt file_limit (length p.text)) _ _ (le-ltb file_limit (length p.text) le))
    ∙ (ap (λ (r : Result FontValue ReadFault). if_there (file_answer Pfa) (if_there (λ f. Ok (untested_font f)) (with_reason font_reason r))) out.1
    ∙ ap {B = Result (List ℕ) Reason} (λ (t : List ℕ). Ok t) (sym out.2))
