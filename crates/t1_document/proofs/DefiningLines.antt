-- Lines by which names find the fonts of other names are read as they were written.
use Rattle.std.proofs.Common.{◌≡◌, ℕ, Bool, true, false, cond, List, [], ◌∷◌, ◌++◌, refl, sym, ap, ◌∙◌, subst, Some, replicate, suc, zero}
use Rattle.std.proofs.{lemmas.Bool.{and_parts, and_from}, lemmas.List.{append-nil}}
use Rattle.std.specs.{Prelude.{codes}, List.{AllByRecursion}}
use Rattle.t1_grammar.specs.Grammar.{Stops}
use Rattle.t1_bytes.specs.White.{has_bytes}
use Rattle.t1_text.{specs.{Words.{is_regular, all_regular, keyword}, Tags.{untagged}}, proofs.TagLemmas.{ends_untagged}}
use Rattle.t1_document.specs.{declared.pooling.Key.{Key}, declared.pooling.Key.TheVariants.{Name, Family}, Pooling.{defined_as, renaming, key_of}, PoolLaws.{defining, renames}}
use Rattle.t1_document.proofs.RegularNames.{IsRegular}

-- ---- names of regular bytes

each_regular : (name : List ℕ) → IsRegular name → AllByRecursion (λ b. is_regular b ≡ true) name
each_regular [] h = tt
each_regular (b ∷ bs) h = let parts = and_parts (is_regular b) (all_regular bs) h in (parts.0, each_regular bs parts.1)

pub regular_both : (a b : List ℕ) → IsRegular a → IsRegular b → IsRegular (a ++ b)
regular_both [] b h k = k
regular_both (x ∷ a) b h k =
    let parts = and_parts (is_regular x) (all_regular a) h in
    and_from (is_regular x) (all_regular (a ++ b)) parts.0 (regular_both a b parts.1 k)

regular_right : (a b : List ℕ) → IsRegular (a ++ b) → IsRegular b
regular_right [] b h = h
regular_right (x ∷ a) b h = regular_right a b (and_parts (is_regular x) (all_regular (a ++ b)) h).1

-- the key of such a name is one
pub key_regular : (by : Key) (name : List ℕ) → IsRegular name → IsRegular (key_of by name)
key_regular Name name h = h
key_regular Family name h = by_any (has_bytes (untagged name))
  where
    bare : IsRegular (untagged name)
    bare = let s = ends_untagged _ name in regular_right s.0 (untagged name) (subst IsRegular s.1 h)

    by_any : (b : Bool) → IsRegular (cond b (untagged name) name)
    by_any true = bare
    by_any false = h

pub colons_regular : (n : ℕ) → IsRegular (replicate n 58)
colons_regular zero = refl
colons_regular (suc n) = colons_regular n

-- ---- lines

defining_spelled : (name other rest : List ℕ) → IsRegular name → IsRegular other → Stops is_regular rest →
    defining.Spells (name, other) (defined_as (47 ∷ name) (47 ∷ other)) rest
unfolding defining keyword
defining_spelled name other rest n o s =
    let pop = codes "pop" in
    let word = codes " findfont definefont " in (
      codes "/",
      codes "/",
      name ++ (codes " /" ++ (other ++ (word ++ pop))),
      refl,
      ((refl, refl), refl),
      (
        name,
        name,
        codes " /" ++ (other ++ (word ++ pop)),
        refl,
        (refl, each_regular name n, refl),
        (
          codes " /",
          codes " /",
          other ++ (word ++ pop),
          refl,
          ((refl, refl), refl),
          (
            other,
            other,
            word ++ pop,
            refl,
            (refl, each_regular other o, refl),
            (word, word, pop, refl, ((refl, refl), refl), (pop, pop, [], refl, ((refl, each_regular pop refl, s), refl), (refl, refl))),
          ),
        ),
      ),
    )

-- a line gives back its names
pub defining_read : (name other rest : List ℕ) → IsRegular name → IsRegular other → Stops is_regular rest →
    defining.read (defined_as (47 ∷ name) (47 ∷ other) ++ rest) ≡ Some ((name, other), rest)
defining_read name other rest n o s =
    defining.again (name, other) (defined_as (47 ∷ name) (47 ∷ other)) rest (defining_spelled name other rest n o s)

-- and so do the lines behind the part of an entry
pub renames_read : (own key name : List ℕ) → IsRegular (own ++ key) → IsRegular name →
    renames.read (renaming (47 ∷ own) key name) ≡ Some (((own ++ key, name), name), [])
unfolding renames
renames_read own key name k n =
    let lost = codes "\nsystemdict/undefinefont known{/" in
    let word = codes " undefinefont}if\n" in
    let text = renaming (47 ∷ own) key name in
    ap renames.read (sym (append-nil text))
    ∙ renames.again ((own ++ key, name), name) text [] (
      (own ++ key, name),
      defined_as (47 ∷ (own ++ key)) (47 ∷ name),
      lost ++ (name ++ word),
      refl,
      defining_spelled (own ++ key) name ((lost ++ (name ++ word)) ++ []) k n refl,
      (
        lost,
        lost,
        name ++ word,
        refl,
        ((refl, refl), refl),
        (name, name, word, refl, (refl, each_regular name n, refl), (word, word, [], refl, ((refl, refl), refl), (refl, refl))),
      ),
    )
