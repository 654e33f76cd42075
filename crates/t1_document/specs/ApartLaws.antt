-- What documents find that are pooled each by itself, as laws, each the contract of a function in `laws`.
use Rattle.std.specs.{Prelude.{◌≡◌, false, List, map, ℕ}, List.{AllByRecursion}}
use Rattle.t1_grammar.specs.{Grammar.{fixed}, Places.{occurs}}
use Rattle.t1_bytes.specs.Laws.{AreBytes}
use Rattle.t1_document.specs.{declared.pooling.Key.{Key}, declared.entries.Least.{Least}, Documents.{Place, document_of}, Rewriting.{NewTexts, Fate, fate_bytes}}
use Rattle.t1_document.specs.{Joins.{Outcomes, AreOutcomes, new_texts, places_of_all}, Pooling.{keyed, entry_part, keys_of, line_fates}}
use Rattle.t1_document.specs.{PoolLaws.{Found, KeepsOwn, Runs, EntersAll, FindsFont, KeepsRest}, Apart.{start_of, entry_among, ends_among, PooledApartBy}}

-- Right behind the font text or the line at a place the place's name finds a font in which the place's own stays, whatever was run since these fonts were
-- found that leaves the pool's names.
abbrev pub FindsAlways : List ℕ → Found → Place × Fate → Type 0
FindsAlways start found x = (before after : Found) → KeepsOwn start found before → Runs (fate_bytes x.1 x.0) before after → FindsFont x.0 after

-- the entries that documents have apart, each in its bytes
abbrev pub parts_apart : Least → Key → NewTexts → List (List ℕ) → List (List ℕ)
parts_apart least by new documents =
    map (λ key. entry_part (start_of documents) key (entry_among least (start_of documents) by new (places_of_all documents) key))
    (keys_of (start_of documents) by (places_of_all documents))

-- places of documents, each with what becomes of it
abbrev pub fates_apart : Least → Key → NewTexts → List (List ℕ) → List Place → List (Place × Fate)
fates_apart least by new documents ps =
    line_fates (start_of documents) by (ends_among least (start_of documents) by new (places_of_all documents)) ps

-- Where the fonts that documents have apart are run, each place of each document finds a font in which its own stays, whatever is run before it then that
-- leaves the pool's names: so the pages of the documents may be run in any order, and any state since then may come back.
abbrev pub PlacesFindApart : Type 0
PlacesFindApart = (least : Least) (by : Key) (documents : List (List ℕ)) → AllByRecursion AreBytes documents → (outcomes : Outcomes) →
    AreOutcomes (keyed by (places_of_all documents)) outcomes → (before setup : Found) →
    EntersAll (start_of documents) (parts_apart least by (new_texts outcomes) documents) before setup →
    AllByRecursion (FindsAlways (start_of documents) setup) (fates_apart least by (new_texts outcomes) documents (places_of_all documents))

-- at each place of each document stands its font text or a line, and then its rest
abbrev pub RestsStayApart : Type 0
RestsStayApart = (least : Least) (by : Key) (new : NewTexts) (documents : List (List ℕ)) →
    AllByRecursion (λ d. AllByRecursion KeepsRest (fates_apart least by new documents (document_of d).places)) documents

-- the start of the pool's names stands in none of the documents
abbrev pub StartIsFreeInAll : Type 0
StartIsFreeInAll = (documents : List (List ℕ)) → AllByRecursion (λ d. occurs (fixed (start_of documents)) d ≡ false) documents

-- documents have one text of fonts apart, and become one list of documents
abbrev pub OnePooledApart : Type 0
OnePooledApart = (least : Least) (by : Key) (documents : List (List ℕ)) (f g : List ℕ) (a b : List (List ℕ)) →
    PooledApartBy least by documents f a → PooledApartBy least by documents g b → (f ≡ g) × (a ≡ b)

-- all that is known of documents that are pooled each by itself, where no job ends between their fonts and them
pub record PooledApart : Type 0 where
  pub finds : PlacesFindApart
  pub rests : RestsStayApart
  pub free : StartIsFreeInAll
  pub one : OnePooledApart
