-- Worked rows of pooling, computed.
use Rattle.std.{proofs.Common.{◌≡◌, ℕ, true, false, List, [], ◌∷◌, ◌++◌, Some, None, refl}, specs.{Prelude.{codes, if◌then◌else◌}, Str.{bytes_eq}}}
use Rattle.t1_grammar.specs.Grammar.{first_at}
use Rattle.t1_text.specs.{Words.{keyword}, Tags.{tag, behind_tags}}
use Rattle.t1_document.specs.{declared.marks.Kind.TheVariants.{Font}, declared.pooling.Key.TheVariants.{Family}, Documents.{Place}, Rewriting.{NewTexts, fated_bytes}}
use Rattle.t1_document.specs.Pooling.{keys_of, takes_line, start_from, free_start, leaves, is_so, clashes, line_end, place_line, entry_bytes, prolog, line_fates}
use Rattle.t1_document.specs.PoolLaws.{defining, renames}

-- ---- a place

abbrev place : List ℕ → List ℕ → Place
place name rest = record { before = codes "-"; kind = Font; depth = 1; name = name; text = codes "T"; rest = rest }

-- ---- names of the pool's own

none_there : free_start (codes "pool: /poo:") ≡ codes "/pool:"
unfolding start_from first_at
none_there = refl

one_there : free_start (codes "(/pool:X") ≡ codes "/pool::"
unfolding start_from first_at
one_there = refl

two_there : free_start (codes "/pool:X /pool::X") ≡ codes "/pool:::"
unfolding start_from first_at
two_there = refl

-- the longer one alone has the shorter one in it
longer_there : free_start (codes "/pool::X") ≡ codes "/pool:::"
unfolding start_from first_at
longer_there = refl

-- ---- what a text leaves

asks_nothing : leaves (codes "/FontInfo known") ≡ Some false
unfolding first_at
asks_nothing = refl

known_so : is_so true (Some true) ≡ true
known_so = refl

otherwise : is_so false (Some true) ≡ false
otherwise = refl

not_known : is_so false None ≡ false
not_known = refl

-- where a word goes on behind the font text, it has no line
takes_none : takes_line (codes "/pool:") (codes "X") false (place (codes "X") (codes "x\n")) ≡ false
unfolding first_at
takes_none = refl

-- ---- names that clash

own_name : clashes (codes "/pool:") (codes "pool:X") ≡ true
own_name = refl

other_name : clashes (codes "/pool:") (codes "pool") ≡ false
other_name = refl

-- a key may clash where the name doesn't
a_key_clashes : keys_of (codes "/pool:") Family (place (codes "ABCDEF+pool:X") [] ∷ place (codes "Y") [] ∷ []) ≡ []
unfolding behind_tags tag
a_key_clashes = refl

no_key_clashes : keys_of (codes "/pool:") Family (place (codes "ABCDEF+X") [] ∷ place (codes "Y") [] ∷ place (codes "X") [] ∷ []) ≡ codes "X" ∷ codes "Y" ∷ []
unfolding behind_tags tag
no_key_clashes = refl

-- ---- lines and entries

line_of_a_name : place_line (codes "/pool:") (line_end false) (codes "X") (codes "X") ≡ codes "/X /pool:X findfont definefont pop"
line_of_a_name = refl

line_of_a_family : place_line (codes "/pool:") (line_end true) (codes "ABCDEF+X") (codes "X") ≡ codes "/ABCDEF+X /pool:X findfont definefont pop false"
line_of_a_family = refl

entry : entry_bytes (codes "/pool::") (codes "X") (record { name = codes "ABCDEF+X"; text = codes "%!.."; answers = true })
    ≡ codes "%%BeginResource: font ABCDEF+X\n%!..{restore}if\n%%EndResource\n/pool::X /ABCDEF+X findfont definefont pop\n"
    ++ codes "systemdict/undefinefont known{/ABCDEF+X undefinefont}if\n"
entry = refl

-- ---- what is read of them

read_of_a_line : defining.read (codes "/ABCDEF+X /pool:X findfont definefont pop false{restore}if\n")
    ≡ Some ((codes "ABCDEF+X", codes "pool:X"), codes " false{restore}if\n")
unfolding defining keyword
read_of_a_line = refl

-- `pop` is a word of its own
read_of_a_word : defining.read (codes "/X /pool:X findfont definefont popular") ≡ None
unfolding defining keyword
read_of_a_word = refl

read_of_another : defining.read (codes "/X (Y) findfont definefont pop") ≡ None
unfolding defining keyword
read_of_another = refl

read_of_an_end : renames.read (codes "/pool:X /ABCDEF+X findfont definefont pop\nsystemdict/undefinefont known{/ABCDEF+X undefinefont}if\n")
    ≡ Some (((codes "pool:X", codes "ABCDEF+X"), codes "ABCDEF+X"), [])
unfolding renames defining keyword
read_of_an_end = refl

-- ---- documents

abbrev ends_of_x : NewTexts
ends_of_x key = if bytes_eq (codes "X") key then Some (codes " false") else None

-- a place whose key has an entry has a line, whatever its depth, and what follows its text stays; another place stays
lines : fated_bytes (line_fates (codes "/pool:") Family ends_of_x (place (codes "ABCDEF+X") (codes "{restore}if\n") ∷ place (codes "Y") (codes "\n") ∷ []))
    (codes "!") ≡ codes "-/ABCDEF+X /pool:X findfont definefont pop false{restore}if\n-T\n!"
unfolding fated_bytes behind_tags tag
lines = refl

nothing_before : prolog [] ≡ []
nothing_before = refl
