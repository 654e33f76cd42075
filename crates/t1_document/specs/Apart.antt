-- Documents pooled each by itself: the fonts of keys stand once, apart from all documents.
use Rattle.std.specs.Prelude.{◌≡◌, ℕ, List, [], map, filter, Option}
use Rattle.t1_document.specs.{declared.pooling.Key.{Key}, declared.entries.Least.{Least}, Documents.{Place, Document, document_of}}
use Rattle.t1_document.specs.{Rewriting.{NewTexts, fated_bytes}, Joins.{Outcomes, AreOutcomes, names_from, new_texts, places_of_all}}
use Rattle.t1_document.specs.Pooling.{own_start, longest, keyed, places_by, Entry, entry_from, keys_of, line_ends, entries, line_fates, is_left_from}

-- what the names of the pool begin with in documents: it stands in none of them
abbrev pub start_of : List (List ℕ) → List ℕ
start_of documents = longest (own_start 1) documents

-- ---- places

-- the entry of a key among these places, which has one from so many places on
abbrev pub entry_among : Least → List ℕ → Key → NewTexts → List Place → List ℕ → Option Entry
entry_among least start by new ps key = entry_from least start key (new key) (places_by by key ps)

-- how the lines of a key end among these places, if it has an entry
abbrev pub ends_among : Least → List ℕ → Key → NewTexts → List Place → NewTexts
ends_among least start by new ps = line_ends (entry_among least start by new ps) (keys_of start by ps)

-- the entries of the keys of these places
abbrev pub fonts_among : Least → List ℕ → Key → NewTexts → List Place → List ℕ
fonts_among least start by new ps = entries start (entry_among least start by new ps) (keys_of start by ps)

-- the keys among these places that have a new text and so many places, and no lines, in the order of their first places
abbrev pub left_among : Least → List ℕ → Key → NewTexts → List Place → List (List ℕ)
left_among least start by new ps =
    filter (λ key. is_left_from least (new key) (places_by by key ps) (ends_among least start by new ps key)) (names_from [] (keyed by ps))

-- ---- documents

-- the bytes of a document in which places of keys whose lines end so have lines
abbrev pub lined_document : List ℕ → Key → NewTexts → Document → List ℕ
lined_document start by ends d = fated_bytes (line_fates start by ends d.places) d.last

-- the fonts that documents have apart
abbrev pub fonts_apart : Least → Key → NewTexts → List (List ℕ) → List ℕ
fonts_apart least by new documents = fonts_among least (start_of documents) by new (places_of_all documents)

-- the documents without them
abbrev pub documents_apart : Least → Key → NewTexts → List (List ℕ) → List (List ℕ)
documents_apart least by new documents =
    map (λ text. lined_document (start_of documents) by (ends_among least (start_of documents) by new (places_of_all documents)) (document_of text)) documents

-- the keys that keep their fonts though these join
abbrev pub left_apart : Least → Key → NewTexts → List (List ℕ) → List (List ℕ)
left_apart least by new documents = left_among least (start_of documents) by new (places_of_all documents)

-- the outcomes are those of the keys of documents, and the documents pooled with them are these fonts, and these documents without them
abbrev pub PooledApartBy : Least → Key → List (List ℕ) → List ℕ → List (List ℕ) → Type 0
PooledApartBy least by documents fonts out =
    (outcomes : Outcomes) × AreOutcomes (keyed by (places_of_all documents)) outcomes × (fonts ≡ fonts_apart least by (new_texts outcomes) documents)
    × (out ≡ documents_apart least by (new_texts outcomes) documents)
