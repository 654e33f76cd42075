-- The classes of files, as they are answered.
use Rattle.std.specs.{Prelude.{◌≡◌, ℕ, ◌+◌, true, false, List, [], ◌∷◌, ◌++◌, Option, Some, None, Err, nat_eq, length, if◌then◌else◌}}
use Rattle.t1_classes.specs.{declared.refusals.Refusal.{Refusal}, declared.classes.Content.{Content}, declared.classes.Content.TheVariants.{Same, Joined, Refused}, declared.classes.Class.{Class}}
use Rattle.t1_classes.specs.{Partition.{File, is_among}, Joining.{joined_text, joins, IsJoined}}

-- the places of the files that are among those of a group, where the first file has place i
abbrev pub places_from : ℕ → List File → List File → List ℕ
places_from i [] group = []
places_from i (f ∷ fs) group = if is_among f group then i ∷ places_from (i + 1) fs group else places_from (i + 1) fs group

-- the places of the files that are among those of a group
abbrev pub places_of : List File → List File → List ℕ
places_of files group = places_from 0 files group

-- What the files of a group come to: one file stays, if it joins; several have the text that they join to; or it is said why they don't join.
abbrev pub IsContent : List ℕ → List File → Content → Type 0
IsContent name group (Same text) = (group ≡ text.now ∷ []) × (joins name group ≡ true)
IsContent name group (Joined text) = (nat_eq (length group) 1 ≡ false) × (joined_text name group ≡ Some text.items)
IsContent name group (Refused why) = IsJoined name group (Err why)

-- files join, or it is said why they don't
abbrev pub IsApart : List ℕ → List File → Option Refusal → Type 0
IsApart name files None = joins name files ≡ true
IsApart name files (Some why) = IsJoined name files (Err why)

-- the class of a group of these files
pub record IsClass (name : List ℕ) (files group : List File) (c : Class) : Type 0 where
  pub members : c.members.items ≡ places_of files group
  pub content : IsContent name group c.content

-- the classes of groups, of which each tells why it doesn't join with this group
abbrev pub AreOthers : List ℕ → List File → List File → List (List File) → List Class → Type 0
AreOthers name files first [] [] = Unit {0}
AreOthers name files first [] (c ∷ cs) = ⊥
AreOthers name files first (g ∷ gs) [] = ⊥
AreOthers name files first (g ∷ gs) (c ∷ cs) = (IsClass name files g c × IsApart name (first ++ g) c.apart) × AreOthers name files first gs cs

-- the classes of groups of these files
abbrev pub AreClasses : List ℕ → List File → List (List File) → List Class → Type 0
AreClasses name files [] [] = Unit {0}
AreClasses name files [] (c ∷ cs) = ⊥
AreClasses name files (g ∷ gs) [] = ⊥
AreClasses name files (g ∷ gs) (c ∷ cs) = (IsClass name files g c × (c.apart ≡ None)) × AreOthers name files g gs cs

-- the text that stands for each file of a class
abbrev pub text_of : Content → Option (List ℕ)
text_of (Same text) = Some text.now
text_of (Joined text) = Some text.items
text_of (Refused why) = None
