-- What documents become as one document whose pages stand by themselves.
use Rattle.std.specs.{Prelude.{◌≡◌, ℕ, ◌+◌, ◌<◌, ◌≤◌, ◌==◌, Bool, true, false, List, [], ◌∷◌, ◌++◌, length, map, codes, decimal, Result, Ok, Err, if◌then◌else◌}}
use Rattle.t1_bytes.specs.Limits.{file_limit}
use Rattle.t1_document.specs.{declared.pooling.Key.{Key}, declared.pooling.Key.TheVariants.{Name, Family}, declared.entries.Least.TheVariants.{One}}
use Rattle.t1_document.specs.{Lines.{one_text}, Joins.{Outcomes, AreOutcomes, new_texts, places_of_all}, Pooling.{keyed}, Apart.{left_apart, PooledApartBy}}
use Rattle.t1_dsc.specs.Joining.{pages_told, joined_pages}
use Rattle.t1_cmd.specs.{declared.pools.Pooling.{Pooling}, Documents.{PoolsBehind, TellsPooled}}
use Rattle.t1_cmd.specs.{declared.faults.Reason.{Reason}, declared.faults.Reason.TheVariants.{TooLong}, Documents.{told_of, told_lines, new_lines}}

-- ---- fonts apart from documents

-- Documents whose fonts stand apart: one font for each name. If families are joined, first one for all names that are equal without their tags, and
-- then one for each name that still has a font text.
abbrev pub PooledApartAs : Bool → List (List ℕ) → List ℕ → List (List ℕ) → Type 0
PooledApartAs false documents fonts out = PooledApartBy One Name documents fonts out
PooledApartAs true documents fonts out = (families names : List ℕ) × (between : List (List ℕ)) × PooledApartBy One Family documents families between
    × PooledApartBy One Name between names out × (fonts ≡ families ++ names)

-- ---- one document

-- these documents, without their fonts, are one document with them
abbrev pub PagedAs : Bool → List (List ℕ) → List ℕ → Type 0
PagedAs tags documents out = (fonts : List ℕ) × (lined : List (List ℕ)) × PooledApartAs tags documents fonts lined × (out ≡ joined_pages fonts lined)

-- documents as one document with each font once, if that is within the file limit
abbrev pub PagesTo : Bool → List (List ℕ) → Result (List ℕ) Reason → Type 0
PagesTo tags documents (Ok out) = PagedAs tags documents out × (length out ≤ file_limit)
PagesTo tags documents (Err TooLong) = (out : List ℕ) × PagedAs tags documents out × (file_limit < length out)
PagesTo tags documents (Err r) = ⊥

-- ---- what is told

-- these are the lines of the keys of documents that keep their fonts, as these don't join or as the key is left
abbrev pub TellsApart : Key → List (List ℕ) → List (List ℕ) → Type 0
TellsApart by documents lines = (outcomes : Outcomes) × AreOutcomes (keyed by (places_of_all documents)) outcomes
    × (lines ≡ told_lines (told_of (left_apart One by (new_texts outcomes) documents) outcomes) (keyed by (places_of_all documents)))

-- the line of a document of this number that has so many pages: where it has none by its comments, it is one page
abbrev pub whole_line : ℕ → ℕ → List ℕ
whole_line n pages = if pages == 0 then codes "document " ++ decimal n ++ codes " has no pages by its comments: it is one page\n" else []

-- the lines of documents that have so many pages, numbered from this number on
abbrev pub whole_lines : ℕ → List ℕ → List ℕ
whole_lines n [] = []
whole_lines n (pages ∷ more) = whole_line n pages ++ whole_lines (n + 1) more

-- the lines of the families and of the names that keep their fonts, none twice, in this order
abbrev pub TellsKept : Bool → List (List ℕ) → List ℕ → Type 0
TellsKept false documents lines = (names : List (List ℕ)) × TellsApart Name documents names × (lines ≡ new_lines [] names)
TellsKept true documents lines = (apart : List ℕ) × (between families names : List (List ℕ)) × PooledApartBy One Family documents apart between
    × TellsApart Family documents families × TellsApart Name between names × (lines ≡ new_lines [] families ++ new_lines families names)

-- What is told of documents as one: the lines of the names and families that keep their fonts, and those of the documents that are one page, for want of
-- comments that say where their pages begin.
abbrev pub TellsPaged : Bool → List (List ℕ) → List ℕ → Type 0
TellsPaged tags documents lines = (kept fonts : List ℕ) × (lined : List (List ℕ)) × TellsKept tags documents kept
    × PooledApartAs tags documents fonts lined × (lines ≡ kept ++ whole_lines 1 (map pages_told lined))

-- ---- pooled as options say

-- documents with each font once: as one document, or one behind the other
abbrev pub PoolsAs : Bool → Bool → List (List ℕ) → Result (List ℕ) Reason → Type 0
PoolsAs true tags = PagesTo tags
PoolsAs false tags = PoolsBehind tags

-- documents with each font once, as these options say
abbrev pub PoolsTo : Pooling → List (List ℕ) → Result (List ℕ) Reason → Type 0
PoolsTo how = PoolsAs how.dsc how.tags

-- what is told of documents that are one, or that stand one behind the other
abbrev pub TellsAs : Bool → Bool → List (List ℕ) → List ℕ → Type 0
TellsAs true tags documents lines = TellsPaged tags documents lines
TellsAs false tags documents lines = TellsPooled tags (one_text documents) lines

-- what is told of documents that are pooled as these options say
abbrev pub TellsPooling : Pooling → List (List ℕ) → List ℕ → Type 0
TellsPooling how = TellsAs how.dsc how.tags
