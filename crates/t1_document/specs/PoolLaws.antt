-- What a pooled document finds, as laws, each the contract of a function in `laws`.
use Rattle.std.specs.Prelude.{◌≡◌, ◌⊎◌, ◌||◌, ℕ, Bool, true, false, List, [], ◌∷◌, ◌++◌, map, drop, codes, Option, Some, None, Ok, IsPermutation, if◌then◌else◌}
use Rattle.std.specs.{List.{AllByRecursion, concat}, Str.{bytes_eq}}
use Rattle.t1_grammar.specs.{Grammar.{Grammar, pure, ◌>>=◌, ◌>>◌, run, fixed}, Places.{occurs}}
use Rattle.t1_bytes.specs.Laws.{AreBytes}
use Rattle.t1_font.specs.{FontValue.{FontValue}, ReadFont.{read_font_widely}}
use Rattle.t1_text.specs.Words.{is_regular, keyword}
use Rattle.t1_document.specs.{declared.pooling.Key.{Key}, Lines.{no_bytes}, Stretches.{Stretch, stretches}, Fonts.{FontText, font_in}, Documents.{Place, document_of}}
use Rattle.t1_document.specs.{Rewriting.{NewTexts, Fate, fate_bytes, fated_bytes}, Joins.{Outcomes, AreOutcomes, places_of_all, new_texts}, JoinLaws.{FontStaysIn}}
use Rattle.t1_document.specs.Pooling.{free_start, keyed, entry_in, entry_part, keys_of, line_ends, prolog, line_fates, pooled_by}

-- ---- what `findfont` finds (PostScript Language Reference, third edition, 5.2)

-- the fonts that are found under names
abbrev pub Found : Type 0
Found = List ℕ → Option FontValue

-- the same, but this one under this name
abbrev pub with_found : List ℕ → Option FontValue → Found → Found
with_found name font found other = if bytes_eq name other then font else found other

-- the pool's name of a key
abbrev pub own_name : List ℕ → List ℕ → List ℕ
own_name start key = drop 1 start ++ key

-- Whatever is run between leaves the fonts of the pool's names, as nothing in a document has names of this start.
abbrev pub KeepsOwn : List ℕ → Found → Found → Type 0
KeepsOwn start before after = (key : List ℕ) → after (own_name start key) ≡ before (own_name start key)

-- ---- what bytes define

-- a line by which a name gets the font of another name, which `findfont` finds: both names
unfoldable pub defining : Grammar (List ℕ × List ℕ)
defining = do
  fixed (codes "/")
  name ← run is_regular
  fixed (codes " /")
  other ← run is_regular
  fixed (codes " findfont definefont ")
  keyword (codes "pop")
  pure (name, other)

-- such a line, and one by which the font of a name is undefined: the two names, and that one
unfoldable pub renames : Grammar ((List ℕ × List ℕ) × List ℕ)
renames = do
  names ← defining
  fixed (codes "\nsystemdict/undefinefont known{/")
  lost ← run is_regular
  fixed (codes " undefinefont}if\n")
  pure (names, lost)

-- a font text is run: the font that it spells is found under its name
abbrev pub RunsFont : FontText → Found → Found → Type 0
RunsFont f before after = (font : FontValue) × (read_font_widely f.text ≡ Ok font) × (after ≡ with_found f.name (Some font) before)

-- what is found behind a line by which the first of two names finds what the second finds
abbrev pub behind_line : List ℕ × List ℕ → Found → Found
behind_line names before = with_found names.0 (before names.1) before

-- a font text is run, or where there is none such a line; where there is neither, nothing is known
abbrev pub RunsFront : Option FontText → Option ((List ℕ × List ℕ) × List ℕ) → Found → Found → Type 0
RunsFront (Some f) line before after = RunsFont f before after
RunsFront None (Some x) before after = after ≡ behind_line x.0 before
RunsFront None None before after = Unit {0}

-- the font text or the line is run that bytes begin with
abbrev pub Runs : List ℕ → Found → Found → Type 0
Runs bytes before after = RunsFront (font_in bytes) (defining.read bytes) before after

-- ---- entries

-- behind a font text comes nothing but what takes the answer of its test
abbrev pub takes_answer : List ℕ → Bool
takes_answer rest = bytes_eq rest (codes "\n") || bytes_eq rest (codes "{restore}if\n")

-- the font text of a part is run, and nothing else is; of any other part nothing is known
abbrev pub RunsPart : Option FontText → Found → Found → Type 0
RunsPart None before after = Unit {0}
RunsPart (Some f) before after = takes_answer f.rest ≡ true → RunsFont f before after

-- The two lines behind a part are run, and nothing else is: under the name whose font is undefined anything may be found then. Of any other bytes nothing
-- is known.
abbrev pub RunsLines : Option (((List ℕ × List ℕ) × List ℕ) × List ℕ) → Found → Found → Type 0
RunsLines None before after = Unit {0}
RunsLines (Some x) before after =
    no_bytes x.1 ≡ true → (name : List ℕ) → bytes_eq x.0.1 name ≡ false → after name ≡ behind_line x.0.0 before name

-- one part is run, and then what stands behind the mark that ends it; of any other stretches nothing is known
abbrev pub RunsStretches : List ℕ → List Stretch → Found → Found → Type 0
RunsStretches [] (s ∷ t ∷ []) before after = (between : Found) × RunsPart (font_in s.text) before between × RunsLines (renames.read t.text) between after
RunsStretches front ss before after = Unit {0}

-- the bytes of an entry are run, or there is none, and what is run leaves the pool's names
abbrev pub EntersOne : List ℕ → List ℕ → Found → Found → Type 0
EntersOne start [] before after = KeepsOwn start before after
EntersOne start (b ∷ bs) before after = RunsStretches (stretches (b ∷ bs)).0 (stretches (b ∷ bs)).1 before after

-- entries are run, one behind the other, and then what leaves the pool's names
abbrev pub EntersAll : List ℕ → List (List ℕ) → Found → Found → Type 0
EntersAll start [] before after = KeepsOwn start before after
EntersAll start (part ∷ parts) before after = (between : Found) × EntersOne start part before between × EntersAll start parts between after

-- ---- places

-- the name of a place finds a font in which the place's own font stays
pub record FindsFont (p : Place) (found : Found) : Type 0 where
  pub font : FontValue
  pub is_found : found p.name ≡ Some font
  pub stays : FontStaysIn font p

-- Right behind the font text or the line that stands at each of these places the place's name finds a font in which the place's own stays, whatever was run
-- before it that leaves the pool's names.
abbrev pub AllFind : List ℕ → List (Place × Fate) → Found → Type 0
AllFind start [] found = Unit {0}
AllFind start (x ∷ xs) found =
    (before after : Found) → KeepsOwn start found before → Runs (fate_bytes x.1 x.0) before after → FindsFont x.0 after × AllFind start xs after

-- ---- pooled texts

-- the entries of a text, each in its bytes, by key
abbrev pub entry_parts : Key → NewTexts → List ℕ → List (List ℕ)
entry_parts by new text =
    map (λ key. entry_part (free_start text) key (entry_in (free_start text) by new (document_of text).places key))
    (keys_of (free_start text) by (document_of text).places)

-- the places of a text, each with what becomes of it
abbrev pub place_fates : Key → NewTexts → List ℕ → List (Place × Fate)
place_fates by new text =
    line_fates (free_start text) by
    (line_ends (entry_in (free_start text) by new (document_of text).places) (keys_of (free_start text) by (document_of text).places))
    (document_of text).places

-- ---- the laws

-- the start of the pool's names stands nowhere in the text
abbrev pub StartIsFree : Type 0
StartIsFree = (text : List ℕ) → occurs (fixed (free_start text)) text ≡ false

-- Where the entries of a pooled text are run and then its places, each place finds a font in which its own stays.
abbrev pub PlacesFind : Type 0
PlacesFind = (by : Key) (text : List ℕ) → AreBytes text → (outcomes : Outcomes) → AreOutcomes (keyed by (document_of text).places) outcomes →
    (before after : Found) → EntersAll (free_start text) (entry_parts by (new_texts outcomes) text) before after →
    AllFind (free_start text) (place_fates by (new_texts outcomes) text) after

-- the font text of a place, or a line and whether it leaves false on the operand stack
abbrev pub IsTextOrLine : Place → List ℕ → Type 0
IsTextOrLine p own =
    (own ≡ p.text) ⊎ ((names : List ℕ × List ℕ) × (answers : Bool) × (defining.read own ≡ Some (names, if answers then codes " false" else [])))

-- at a place stands its font text or a line, and then its rest
abbrev pub KeepsRest : Place × Fate → Type 0
KeepsRest x = (own : List ℕ) × (fate_bytes x.1 x.0 ≡ own ++ x.0.rest) × IsTextOrLine x.0 own

-- The bytes of a pooled text are a first line and the entries, if there are any, and then, place by place, those before the place and what stands there,
-- which is its font text or a line, and its rest; and the last bytes.
pub record PooledOthersStay : Type 0 where
  pub bytes : (by : Key) (new : NewTexts) (text : List ℕ) →
      pooled_by by new text ≡ prolog (concat (entry_parts by new text)) ++ fated_bytes (place_fates by new text) (document_of text).last
  pub places : (by : Key) (new : NewTexts) (text : List ℕ) → map (λ x. x.0) (place_fates by new text) ≡ (document_of text).places
  pub rests : (by : Key) (new : NewTexts) (text : List ℕ) → AllByRecursion KeepsRest (place_fates by new text)

-- the outcomes are those of the keys of a text, and the text pooled with them is this
abbrev pub PooledByKeys : Key → List ℕ → List ℕ → Type 0
PooledByKeys by text out = (outcomes : Outcomes) × AreOutcomes (keyed by (document_of text).places) outcomes × (out ≡ pooled_by by (new_texts outcomes) text)

-- a text is pooled to one text
abbrev pub OnePooledByKeys : Type 0
OnePooledByKeys = (by : Key) (text a b : List ℕ) → PooledByKeys by text a → PooledByKeys by text b → a ≡ b

-- what was pooled by keys is pooled by them to itself
abbrev pub PooledAgainByKeys : Type 0
PooledAgainByKeys = (by : Key) (text a b : List ℕ) → PooledByKeys by text a → PooledByKeys by a b → b ≡ a

-- in another order documents get the same texts for their keys
abbrev pub InAnyOrderByKeys : Type 0
InAnyOrderByKeys = (by : Key) (documents others : List (List ℕ)) → AllByRecursion AreBytes documents → IsPermutation documents others → (a b : Outcomes) →
    AreOutcomes (keyed by (places_of_all documents)) a → AreOutcomes (keyed by (places_of_all others)) b → (key : List ℕ) → new_texts a key ≡ new_texts b key

-- ---- all of them

-- All that is known of what texts are pooled to. One premise is left: the entries are run, and no job ends between them and a place, since then the fonts
-- of the pool's names would be gone.
pub record Pooled : Type 0 where
  pub finds : PlacesFind
  pub others : PooledOthersStay
  pub free : StartIsFree
  pub one : OnePooledByKeys
  pub again : PooledAgainByKeys
  pub orders : InAnyOrderByKeys
