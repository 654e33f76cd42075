use Rattle.std.proofs.{Common.{◌≡◌, ℕ, Bool, true, false, ◌||◌, List, [], ◌∷◌, ◌++◌, map, Option, Some, None, is_some, refl, sym, ◌∙◌, ap, true≢false}, lemmas.List.{map-append}}
use Rattle.std.specs.{Borrow.{Bor}, Global.{Vec}, Option.{option_copied}, Ordering.{eq_by_cmp, is_eq}, Cmp.{Equal-is, tied_itself}, Cmp.Lexicographic.{nat_list_cmp_total}}
use Rattle.t1_font.specs.{FontValue.{CharStrings, name_cmp, notdef}, Cut.{set_of_names}}
use Rattle.t1_font.proofs.canonical.FontAgain.{name_same}
use Rattle.t1_font_cuts_tests.proofs.tests.cuts.known.Goals.{then-is_some+in_ok-from_slice-2+in_ok-push-2, else-is_some}
use Rattle.std.specs.FinMap as fin
use Rattle.std.specs.FinSet as sets
use Rattle.t1_font_cuts_tests.proofs.tests.cuts.known.Goals as goal

or_true : (a : Bool) → (a || true) ≡ true
or_true true = refl
or_true false = refl

copied : (o : Option (Bor (List ℕ))) → is_some (option_copied o) ≡ is_some o
copied None = refl
copied (Some b) = refl

-- whether a name is in a list with one more
more : (vs : List (Vec ℕ)) (v : Vec ℕ) (q : List ℕ) →
    sets.contains (set_of_names (vs ++ v ∷ [])) q ≡ (eq_by_cmp name_cmp q v.items || sets.contains (set_of_names vs) q)
more vs v q =
    ap (λ (ns : List (List ℕ)). sets.contains (sets.from_list {R = name_cmp} ns) q) (map-append (λ (w : Vec ℕ). w.items) vs (v ∷ []))
    ∙ (ap (λ (s : sets.FinSet name_cmp). sets.contains s q) (sets.from_list_push nat_list_cmp_total name_same (map (λ (w : Vec ℕ). w.items) vs) v.items)
    ∙ sets.contains-insert nat_list_cmp_total (set_of_names vs) v.items q)

-- a list of names that a map has, and one more
known_more : (m : CharStrings) (vs : List (Vec ℕ)) (v : Vec ℕ) → ((n : List ℕ) → sets.contains (set_of_names vs) n ≡ true → fin.contains_key m n ≡ true) →
    fin.contains_key m v.items ≡ true
    → (n : List ℕ) → sets.contains (set_of_names (vs ++ v ∷ [])) n ≡ true → fin.contains_key m n ≡ true
known_more m vs v all one n h = by_test (eq_by_cmp name_cmp n v.items) refl (sym (more vs v n) ∙ h)
  where
    by_test : (b : Bool) → eq_by_cmp name_cmp n v.items ≡ b → (b || sets.contains (set_of_names vs) n) ≡ true → fin.contains_key m n ≡ true
    by_test true e t = ap (fin.contains_key m) (name_same n v.items ((Equal-is (name_cmp n v.items)).0 e)) ∙ one
    by_test false e t = all n t

none_known : (m : CharStrings) (n : List ℕ) → sets.contains (set_of_names []) n ≡ true → fin.contains_key m n ≡ true
none_known m n h = absurd (true≢false (sym h ∙ sets.contains-empty name_cmp n))

notdef_first : (v : Vec ℕ) → v.items ≡ notdef → sets.contains (set_of_names ([] ++ v ∷ [])) notdef ≡ true
notdef_first v e = more [] v notdef
    ∙ ap (λ b. b || sets.contains (set_of_names []) notdef) (ap (λ n. eq_by_cmp name_cmp notdef n) e ∙ ap is_eq (tied_itself nat_list_cmp_total notdef))

notdef_more : (vs : List (Vec ℕ)) (v : Vec ℕ) → sets.contains (set_of_names vs) notdef ≡ true → sets.contains (set_of_names (vs ++ v ∷ [])) notdef ≡ true
notdef_more vs v h = more vs v notdef ∙ (ap (λ b. eq_by_cmp name_cmp notdef v.items || b) h ∙ or_true (eq_by_cmp name_cmp notdef v.items))

pub names-init : goal.names-init
names-init c =
    let m = c.args.font.now.glyphs in
    let v = c.in_ok-from_slice.field-0 in
    let is : c.push.new.self.items ≡ [] ++ v ∷ [] = c.in_ok-push.ensures.items ∙ ap (λ (vs : List (Vec ℕ)). vs ++ v ∷ []) c.new-known.ensures.items in
    record {
      known = λ n h. known_more m [] v (none_known m) (ap (fin.contains_key m) c.in_ok-from_slice.ensures.items ∙ c.proof_is_font.ensures.glyphs.notdef) n
          (ap (λ (vs : List (Vec ℕ)). sets.contains (set_of_names vs) n) (sym is) ∙ h);
      notdef = ap (λ (vs : List (Vec ℕ)). sets.contains (set_of_names vs) notdef) is ∙ notdef_first v c.in_ok-from_slice.ensures.items;
    }

pub names-preserved : goal.names-preserved
names-preserved c = elim c.if-is_some.branch [
  | then-is_some+in_ok-from_slice-2+in_ok-push-2 w ↦
      let m = c.args.font.now.glyphs in
      let v = w.in_ok-from_slice-2.field-0 in
      let is : c.if-is_some.known.items ≡ c.names.known.items ++ v ∷ [] = ap (λ (vs : Vec (Vec ℕ)). vs.items) w.known-is ∙ w.in_ok-push-2.ensures.items in
      let has : fin.contains_key m v.items ≡ true = ap (fin.contains_key m) w.in_ok-from_slice-2.ensures.items
      ∙ (ap is_some (sym c.glyph.ensures) ∙ (copied c.glyph.result ∙ (sym c.is_some.ensures ∙ w.if-is_some.true))) in
      record {
        known = λ n h. known_more m c.names.known.items v c.names.invariant.known has n
            (ap (λ (vs : List (Vec ℕ)). sets.contains (set_of_names vs) n) (sym is) ∙ h);
        notdef = ap (λ (vs : List (Vec ℕ)). sets.contains (set_of_names vs) notdef) is ∙ notdef_more c.names.known.items v c.names.invariant.notdef;
      }
  | else-is_some w ↦
      let is : c.if-is_some.known.items ≡ c.names.known.items = ap (λ (vs : Vec (Vec ℕ)). vs.items) w.known-is in
      record {
        known = λ n h. c.names.invariant.known n (ap (λ (vs : List (Vec ℕ)). sets.contains (set_of_names vs) n) (sym is) ∙ h);
        notdef = ap (λ (vs : List (Vec ℕ)). sets.contains (set_of_names vs) notdef) is ∙ c.names.invariant.notdef;
      }
]
