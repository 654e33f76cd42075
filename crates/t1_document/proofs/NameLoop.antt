-- The loop that gathers the names of places.
use Rattle.std.proofs.Common.{◌≡◌, ◌≤◌, ◌+◌, ℕ, Bool, true, false, cond, List, [], ◌∷◌, ◌++◌, length, drop, map, Option, Some, None, refl, sym, ap, ◌∙◌, append_assoc, is_some, Bor}
use Rattle.std.proofs.{lemmas.Bool.{cond-true, cond-false}, lemmas.List.{drop_all, append-nil}}
use Rattle.std.specs.{Prelude.{not}, Option.{option_map}}
use Rattle.t1_document.specs.{declared.documents.Place.{Place as CodePlace}, declared.texts.Texts.{Texts}, Rewriting.{is_seen}, Joins.{names_from}, Texts.{text_in, Sees}, Views.{place_view}}

-- the names of so many places were gathered
pub record Gathers (ps : List CodePlace) (i : ℕ) (out : List (List ℕ)) (seen : Texts) : Type 0 where
  pub names : List (List ℕ)
  pub sees : Sees seen names
  pub whole : out ++ names_from names (map place_view (drop i ps)) ≡ names_from [] (map place_view ps)

-- at the start none were
pub none_gathered : (ps : List CodePlace) (seen : Texts) → ((name : List ℕ) → text_in seen name ≡ None) → Gathers ps 0 [] seen
none_gathered ps seen none = record { names = []; sees = record { same = λ name. ap (λ (o : Option (List ℕ)). is_some o) (none name) }; whole = refl }

-- at the end all were
pub all_gathered : (ps : List CodePlace) (i : ℕ) (out : List (List ℕ)) (seen : Texts) → length ps ≤ i → Gathers ps i out seen →
    out ≡ names_from [] (map place_view ps)
all_gathered ps i out seen le g =
    sym (append-nil out) ∙ (ap (λ (qs : List CodePlace). out ++ names_from g.names (map place_view qs)) (sym (drop_all i ps le)) ∙ g.whole)

-- whether a name was seen, by what is got of it
got : (seen : Texts) (names : List (List ℕ)) (name : List ℕ) (o : Option (Bor (List ℕ))) (b : Bool) → Sees seen names →
    option_map (λ (t : Bor (List ℕ)). t.now) o ≡ text_in seen name → is_some o ≡ not b → is_seen names name ≡ not b
got seen names name o b sees e s = sym (sees.same name) ∙ (ap (λ (q : Option (List ℕ)). is_some q) (sym e) ∙ (lent o ∙ s))
  where
    lent : (o : Option (Bor (List ℕ))) → is_some (option_map (λ (t : Bor (List ℕ)). t.now) o) ≡ is_some o
    lent None = refl
    lent (Some x) = refl

module _ (ps : List CodePlace) (i : ℕ) (p : CodePlace) (there : drop i ps ≡ p ∷ drop (i + 1) ps) (out : List (List ℕ)) (seen : Texts)
    (o : Option (Bor (List ℕ))) (b : Bool) (e : option_map (λ (t : Bor (List ℕ)). t.now) o ≡ text_in seen p.name.now) (s : is_some o ≡ not b)
    (g : Gathers ps i out seen) where
  -- what is left, of which this place is the first
  at_place : out ++ cond (is_seen g.names p.name.now) (names_from g.names (map place_view (drop (i + 1) ps)))
      (p.name.now ∷ names_from (p.name.now ∷ g.names) (map place_view (drop (i + 1) ps))) ≡ names_from [] (map place_view ps)
  at_place = ap (λ (qs : List CodePlace). out ++ names_from g.names (map place_view qs)) (sym there) ∙ g.whole

  -- a name that was seen
  pub seen_before : b ≡ false → Gathers ps (i + 1) out seen
  seen_before f =
      let was : is_seen g.names p.name.now ≡ true = got seen g.names p.name.now o b g.sees e s ∙ ap not f in
      record { names = g.names; sees = g.sees; whole = ap (λ (ns : List (List ℕ)). out ++ ns) (sym (cond-true _ _ _ was)) ∙ at_place }

  -- another
  pub seen_first : (other : Texts) (more : List (List ℕ)) → b ≡ true → ((names : List (List ℕ)) → Sees seen names → Sees other (p.name.now ∷ names)) →
      more ≡ out ++ p.name.now ∷ [] → Gathers ps (i + 1) more other
  seen_first other more t noted put =
      let was : is_seen g.names p.name.now ≡ false = got seen g.names p.name.now o b g.sees e s ∙ ap not t in
      let rest : List (List ℕ) = names_from (p.name.now ∷ g.names) (map place_view (drop (i + 1) ps)) in
      record {
        names = p.name.now ∷ g.names;
        sees = noted g.names g.sees;
        whole = ap (λ (ns : List (List ℕ)). ns ++ rest) put
            ∙ (append_assoc out (p.name.now ∷ []) rest ∙ (ap (λ (ns : List (List ℕ)). out ++ ns) (sym (cond-false _ _ _ was)) ∙ at_place));
      }
