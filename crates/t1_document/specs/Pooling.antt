-- Documents pooled: the font of each key stands once, before the first document, under a name of the pool's own, and each place of the key gets it by a line.
use Rattle.std.specs.{Prelude.{ℕ, zero, suc, ◌&&◌, ◌||◌, not, Bool, true, false, List, [], ◌∷◌, ◌++◌, map, filter, replicate, length, codes, nat_lt, Option, Some, None, is_some, if◌then◌else◌}}
use Rattle.std.specs.{Prelude.{Result, Ok, Err}, List.{list_all, list_any, flat_map}, Option.{option_map, option_and_then}, Str.{bytes_eq}}
use Rattle.t1_grammar.specs.{Grammar.{fixed}, Places.{occurs}}
use Rattle.t1_bytes.specs.White.{has_bytes}
use Rattle.t1_text.specs.Words.{regular_comes}
use Rattle.t1_text.specs.FontTest.{taken_test}
use Rattle.t1_font.specs.{declared.fault.ReadFault.{ReadFault}, FontValue.{FontValue}, ReadFont.{read_font_widely}}
use Rattle.t1_document.specs.{declared.pooling.Key.{Key}, declared.pooling.Key.TheVariants.{Name, Family}, Marks.{begins_with, has_mark}, Fonts.{FontText, font_in}}
use Rattle.t1_document.specs.{declared.entries.Least.{Least}, declared.entries.Least.TheVariants.{One, Two}}
use Rattle.t1_document.specs.{Documents.{Place, Document, document_bytes, document_of}, Rewriting.{NewTexts, can_give, is_seen, Fate, Stays, Gives, fated}}
use Rattle.t1_document.specs.{Families.{family}, Joins.{names_from}}

-- ---- names of the pool's own

-- a slash, `pool`, and so many colons
abbrev pub own_start : ℕ → List ℕ
own_start colons = codes "/pool" ++ replicate colons 58

-- the first of these starts, from so many colons on and at most so many more, that stands nowhere in a text
unfoldable pub start_from : ℕ → ℕ → List ℕ → List ℕ
start_from zero colons text = own_start colons
start_from (suc more) colons text = if occurs (fixed (own_start colons)) text then start_from more (suc colons) text else own_start colons

-- what the names of the pool begin with: `/pool:`, or more colons where the text has such names already
abbrev pub free_start : List ℕ → List ℕ
free_start text = start_from (length text) 1 text

-- the longer of two starts of names
abbrev pub longer : List ℕ → List ℕ → List ℕ
longer a b = if nat_lt (length a) (length b) then b else a

-- the longest of a start and those that are free in texts
abbrev pub longest : List ℕ → List (List ℕ) → List ℕ
longest start [] = start
longest start (t ∷ ts) = longest (longer start (free_start t)) ts

-- ---- keys

-- what the places of one font share: their name, or their name without tags
abbrev pub key_of : Key → List ℕ → List ℕ
key_of Name name = name
key_of Family name = family name

-- a place under its key
abbrev pub under_key : Key → Place → Place
under_key by p = record p { name = key_of by p.name }

-- places under their keys
abbrev pub keyed : Key → List Place → List Place
keyed by ps = map (under_key by) ps

-- the places of a key
abbrev pub places_by : Key → List ℕ → List Place → List Place
places_by by key ps = filter (λ p. bytes_eq (key_of by p.name) key) ps

-- ---- what is written

-- the font of another name is found under this one, too
abbrev pub defined_as : List ℕ → List ℕ → List ℕ
defined_as name other = name ++ (codes " " ++ (other ++ codes " findfont definefont pop"))

-- what follows in a line that leaves false on the operand stack, or nothing
abbrev pub line_end : Bool → List ℕ
line_end answers = if answers then codes " false" else []

-- the line in place of a font text: the name gets the pool's font of its key
abbrev pub place_line : List ℕ → List ℕ → List ℕ → List ℕ → List ℕ
place_line start end name key = defined_as (codes "/" ++ name) (start ++ key) ++ end

-- a font text before the documents, the name of its font, and whether it leaves an answer on the operand stack
pub record Entry : Type 0 where
  pub name : List ℕ
  pub text : List ℕ
  pub answers : Bool

-- what follows its text, and takes that answer
abbrev pub behind_text : Bool → List ℕ
behind_text answers = if answers then codes "{restore}if\n" else codes "\n"

-- the part of an entry's text
abbrev pub text_part : Entry → List ℕ
text_part e = (codes "%%BeginResource: font " ++ (e.name ++ codes "\n")) ++ (e.text ++ (behind_text e.answers ++ codes "%%EndResource\n"))

-- a font of this name gets the pool's name of a key, and loses its own, under which the documents may find another
abbrev pub renaming : List ℕ → List ℕ → List ℕ → List ℕ
renaming start key name =
    defined_as (start ++ key) (codes "/" ++ name) ++ (codes "\nsystemdict/undefinefont known{/" ++ (name ++ codes " undefinefont}if\n"))

-- the entry of a key
abbrev pub entry_bytes : List ℕ → List ℕ → Entry → List ℕ
entry_bytes start key e = text_part e ++ renaming start key e.name

-- ---- what a font text leaves

-- a text asks PostScript for the fonts that are loaded
abbrev pub asks : List ℕ → Bool
asks text = occurs (fixed (codes "FontDirectory")) text

-- what a text that asks leaves: an answer where a font was read whose head has the test that it loses when it is mended; else it isn't known
abbrev pub left_by : Result FontValue ReadFault → Option Bool
left_by (Ok f) = if is_some (taken_test f.shell.head) then Some true else None
left_by (Err fault) = None

-- Whether a font text leaves an answer on the operand stack: that of its test whether its font was loaded before. Where a text asks in another way, it
-- isn't known.
abbrev pub leaves : List ℕ → Option Bool
leaves text = if asks text then left_by (read_font_widely text) else Some false

-- it is known, and so
abbrev pub is_so : Bool → Option Bool → Bool
is_so answers None = false
is_so answers (Some b) = if answers then b else not b

-- ---- which fonts are pooled

-- a name that begins as the pool's own do
abbrev pub clashes : List ℕ → List ℕ → Bool
clashes start name = begins_with start (47 ∷ name)

-- what was found is this font text, with this behind it; then this is its name
abbrev pub named_by : List ℕ → List ℕ → Option FontText → Option (List ℕ)
named_by text rest None = None
named_by text rest (Some f) = if bytes_eq f.text text && bytes_eq f.rest rest then Some f.name else None

-- a name that doesn't clash
abbrev pub if_clear : List ℕ → List ℕ → Option (List ℕ)
if_clear start name = if clashes start name then None else Some name

-- The name of the font of a text that can stand before the documents: with what follows it there, it has no mark and is read again; and its name doesn't clash.
abbrev pub entry_name : List ℕ → List ℕ → List ℕ → Option (List ℕ)
entry_name start text rest =
    if has_mark (text ++ rest) then None else option_and_then (if_clear start) (named_by text rest (font_in (text ++ rest)))

-- the text of a place leaves as much as others do, no word goes on behind it, and the place's line can stand there
abbrev pub takes_line : List ℕ → List ℕ → Bool → Place → Bool
takes_line start key answers p =
    is_so answers (leaves p.text) && not (regular_comes p.rest) && can_give (place_line start (line_end answers) p.name key ++ p.rest)

-- an entry of this name
abbrev pub entry_named : List ℕ → Bool → List ℕ → Entry
entry_named text answers name = record { name = name; text = text; answers = answers }

-- the entry of this text, if it leaves so much and each of these places takes its line
abbrev pub entry_for : List ℕ → List ℕ → List ℕ → Bool → List Place → Option Entry
entry_for start key text answers ps =
    if is_so answers (leaves text) && list_all (takes_line start key answers) ps
    then option_map (entry_named text answers) (entry_name start text (behind_text answers)) else None

-- the first of several places
abbrev pub first_of_several : List Place → Option Place
first_of_several [] = None
first_of_several (p ∷ []) = None
first_of_several (p ∷ q ∷ ps) = Some p

-- the first of places, if there are so many
abbrev pub first_from : Least → List Place → Option Place
first_from Two ps = first_of_several ps
first_from One [] = None
first_from One (p ∷ ps) = Some p

-- the entry of this text, where the first of these places leaves so much
abbrev pub entry_leaving : List ℕ → List ℕ → List ℕ → Option Bool → List Place → Option Entry
entry_leaving start key text None ps = None
entry_leaving start key text (Some answers) ps = entry_for start key text answers ps

-- the entry of a key that has this text, whose places are these, the first of several among them
abbrev pub entry_by : List ℕ → List ℕ → Option (List ℕ) → Option Place → List Place → Option Entry
entry_by start key None first ps = None
entry_by start key (Some text) None ps = None
entry_by start key (Some text) (Some p) ps = entry_leaving start key text (leaves p.text) ps

-- the entry of a key whose places are these: there is one where the key has a text and at least so many places
abbrev pub entry_from : Least → List ℕ → List ℕ → Option (List ℕ) → List Place → Option Entry
entry_from least start key text ps = entry_by start key text (first_from least ps) ps

-- The entry of a key whose places are these: there is one where the key has a text and several places.
abbrev pub entry_of : List ℕ → List ℕ → Option (List ℕ) → List Place → Option Entry
entry_of start key text ps = entry_by start key text (first_of_several ps) ps

-- that of a key among these places
abbrev pub entry_in : List ℕ → Key → NewTexts → List Place → List ℕ → Option Entry
entry_in start by new ps key = entry_of start key (new key) (places_by by key ps)

-- the bytes of an entry, if there is one
abbrev pub entry_part : List ℕ → List ℕ → Option Entry → List ℕ
entry_part start key None = []
entry_part start key (Some e) = entry_bytes start key e

-- how the lines of its places end
abbrev pub end_by : Option Entry → Option (List ℕ)
end_by entry = option_map (λ e. line_end e.answers) entry

-- the end of a key's lines, where its entry is added to ends
abbrev pub end_added : Option Entry → List ℕ → List ℕ → Option (List ℕ) → Option (List ℕ)
end_added None key other end = end
end_added (Some e) key other end = if bytes_eq key other then Some (line_end e.answers) else end

-- ---- documents

-- the name of one of these places clashes
abbrev pub any_clashes : List ℕ → List Place → Bool
any_clashes start ps = list_any (λ p. clashes start p.name) ps

-- the keys of places, each once, in the order of their first places; none where the name or the key of a place clashes
abbrev pub keys_of : List ℕ → Key → List Place → List (List ℕ)
keys_of start by ps = if any_clashes start ps || any_clashes start (keyed by ps) then [] else names_from [] (keyed by ps)

-- how the lines of a key end, if it is one of these and has an entry
abbrev pub line_ends : (List ℕ → Option Entry) → List (List ℕ) → NewTexts
line_ends entry keys key = if is_seen keys key then end_by (entry key) else None

-- the entries of keys
abbrev pub entries : List ℕ → (List ℕ → Option Entry) → List (List ℕ) → List ℕ
entries start entry keys = flat_map (λ key. entry_part start key (entry key)) keys

-- what stands before the documents
abbrev pub prolog : List ℕ → List ℕ
prolog parts = if has_bytes parts then codes "%!PS-Adobe-3.0\n" ++ parts else []

-- a place with a line that ends so in place of its font text
abbrev pub fate_ending : List ℕ → Key → Option (List ℕ) → Place → Fate
fate_ending start by None p = Stays
fate_ending start by (Some end) p = Gives (place_line start end p.name (key_of by p.name) ++ p.rest)

-- what becomes of a place, where the lines of keys end so
abbrev pub line_fate : List ℕ → Key → NewTexts → Place → Fate
line_fate start by ends p = fate_ending start by (ends (key_of by p.name)) p

-- places, each with what becomes of it
abbrev pub line_fates : List ℕ → Key → NewTexts → List Place → List (Place × Fate)
line_fates start by ends ps = map (λ p. (p, line_fate start by ends p)) ps

-- there is more than one place
abbrev pub is_several : List Place → Bool
is_several [] = false
is_several (p ∷ []) = false
is_several (p ∷ q ∷ ps) = true

-- a text, and no end of lines
abbrev pub has_no_lines : Option (List ℕ) → Option (List ℕ) → Bool
has_no_lines None end = false
has_no_lines (Some text) None = true
has_no_lines (Some text) (Some end) = false

-- a key with this text and these places keeps its font texts all the same, as it has no lines
abbrev pub is_left : Option (List ℕ) → List Place → Option (List ℕ) → Bool
is_left text ps end = is_several ps && has_no_lines text end

-- a key with this text and these places, which has an entry from so many places on, keeps its font texts all the same
abbrev pub is_left_from : Least → Option (List ℕ) → List Place → Option (List ℕ) → Bool
is_left_from One text ps end = has_no_lines text end
is_left_from Two text ps end = is_left text ps end

-- the keys among places that have a new text and several places, and no lines, in the order of their first places
abbrev pub left_keys : List ℕ → Key → NewTexts → List Place → List (List ℕ)
left_keys start by new ps =
    filter (λ key. is_left (new key) (places_by by key ps) (line_ends (entry_in start by new ps) (keys_of start by ps) key)) (names_from [] (keyed by ps))

-- a document in which places of keys that have entries have lines
abbrev pub lined : List ℕ → Key → NewTexts → Document → Document
lined start by new d = fated (line_fates start by (line_ends (entry_in start by new d.places) (keys_of start by d.places)) d.places) d.last

-- the entries of a document, and its bytes with lines, where the pool's names have this start
abbrev pub document_pooled : List ℕ → Key → NewTexts → Document → List ℕ
document_pooled start by new d =
    prolog (entries start (entry_in start by new d.places) (keys_of start by d.places)) ++ document_bytes (lined start by new d)

-- a text pooled by keys that have these new texts
abbrev pub pooled_by : Key → NewTexts → List ℕ → List ℕ
pooled_by by new text = document_pooled (free_start text) by new (document_of text)
