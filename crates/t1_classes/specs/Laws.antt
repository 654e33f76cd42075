-- The laws of classes, each the contract of a function in `laws`.
use Rattle.std.specs.Prelude.{◌≡◌, ◌⊎◌, ◌<◌, ◌+◌, ℕ, Bool, true, false, List, [], ◌∷◌, ◌++◌, map, Some, Ok, IsPermutation, nat_eq, nat_lt, length, slice_index_or, if◌then◌else◌}
use Rattle.std.specs.List.{AllByRecursion, list_any}
use Rattle.t1_font.specs.{FontValue.{FontValue}, FontNames.{normalized_named}}
use Rattle.t1_classes.specs.{declared.classes.Class.{Class}, Partition.{File, groups}, Joining.{fonts_of_files, joined_text, joins, RejoinToText}}
use Rattle.t1_classes.specs.Classes.{AreClasses, text_of}

-- the groups of files that are to have this name
abbrev pub groups_under : List ℕ → List File → List (List File)
groups_under name files = groups (joins name) files

-- files join, or they are one file
abbrev pub JoinsOrOne : List ℕ → List File → Type 0
JoinsOrOne name group = (joins name group ≡ true) ⊎ (length group ≡ 1)

-- the place is a member of the class
abbrev pub is_member : ℕ → Class → Bool
is_member i c = list_any (nat_eq i) c.members.items

-- of how many classes the place is a member
abbrev pub classes_with : ℕ → List Class → ℕ
classes_with i [] = 0
classes_with i (c ∷ cs) = (if is_member i c then 1 else 0) + classes_with i cs

-- ---- laws

-- files in another order have the same groups, and their classes have the same texts, in the same order
abbrev pub InAnyOrder : Type 0
InAnyOrder = (name : List ℕ) (files others : List File) → IsPermutation files others
    → (groups_under name files ≡ groups_under name others)
    × ((cs ds : List Class) → AreClasses name files (groups_under name files) cs → AreClasses name others (groups_under name others) ds
    → map (λ c. text_of c.content) cs ≡ map (λ c. text_of c.content) ds)

-- the files of each class with several files join
abbrev pub ClassesJoin : Type 0
ClassesJoin = (name : List ℕ) (files : List File) → AllByRecursion (JoinsOrOne name) (groups_under name files)

-- files that join to a text spell fonts that, normalized under the name, rejoin to it
abbrev pub JoinedRejoin : Type 0
JoinedRejoin = (name : List ℕ) (files : List File) (text : List ℕ) → joined_text name files ≡ Some text
    → (fonts : List FontValue) × (fonts_of_files files ≡ Ok fonts) × RejoinToText (normalized_named name fonts) text

-- the files of no two classes join
abbrev pub NoTwoJoin : Type 0
NoTwoJoin = (name : List ℕ) (files : List File) (i j : ℕ) → i < j → j < length (groups_under name files)
    → joins name (slice_index_or (groups_under name files) i [] ++ slice_index_or (groups_under name files) j []) ≡ false

-- each place of a file is a member of one class, and no other number is one of any
abbrev pub EachInOneClass : Type 0
EachInOneClass = (name : List ℕ) (files : List File) (cs : List Class) → AreClasses name files (groups_under name files) cs
    → (i : ℕ) → classes_with i cs ≡ (if nat_lt i (length files) then 1 else 0)

-- equal files are members of the same class
abbrev pub EqualTogether : Type 0
EqualTogether = (name : List ℕ) (files : List File) (cs : List Class) → AreClasses name files (groups_under name files) cs
    → (i j : ℕ) → i < length files → j < length files → slice_index_or files i [] ≡ slice_index_or files j []
    → AllByRecursion (λ c. is_member i c ≡ is_member j c) cs
