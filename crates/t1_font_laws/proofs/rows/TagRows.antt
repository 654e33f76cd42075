-- Texts around an Encoding with tags before the names of their fonts, and what is left of them.
use Rattle.std.{proofs.Common.{◌≡◌, [], refl}, specs.Prelude.{codes}}
use Rattle.t1_grammar.specs.Grammar.{first_at}
use Rattle.t1_font.specs.NormalTexts.{without_tags}
use Rattle.t1_text.specs.Tags.{tag, name_marker, behind_tags}

a_tag : without_tags (codes "%! /FontName /ABCDEF+Tiny def ", []) ≡ (codes "%! /FontName /Tiny def ", [])
unfolding first_at tag name_marker behind_tags
a_tag = refl

two_tags : without_tags (codes "/FontName/ABCDEF+GHIJKL+Tiny def", []) ≡ (codes "/FontName/Tiny def", [])
unfolding first_at tag name_marker behind_tags
two_tags = refl

no_tag : without_tags (codes "/FontName /Tiny def", []) ≡ (codes "/FontName /Tiny def", [])
unfolding first_at tag name_marker behind_tags
no_tag = refl

five_letters : without_tags (codes "/FontName /ABCDE+Tiny def", []) ≡ (codes "/FontName /ABCDE+Tiny def", [])
unfolding first_at tag name_marker behind_tags
five_letters = refl

seven_letters : without_tags (codes "/FontName /ABCDEFG+Tiny def", []) ≡ (codes "/FontName /ABCDEFG+Tiny def", [])
unfolding first_at tag name_marker behind_tags
seven_letters = refl

lower_case : without_tags (codes "/FontName /abcdef+Tiny def", []) ≡ (codes "/FontName /abcdef+Tiny def", [])
unfolding first_at tag name_marker behind_tags
lower_case = refl

-- MetaPost writes a hyphen, which makes no tag
hyphen : without_tags (codes "/FontName /ABCDEF-Tiny def", []) ≡ (codes "/FontName /ABCDEF-Tiny def", [])
unfolding first_at tag name_marker behind_tags
hyphen = refl

no_slash : without_tags (codes "/FontName ABCDEF+Tiny def", []) ≡ (codes "/FontName ABCDEF+Tiny def", [])
unfolding first_at tag name_marker behind_tags
no_slash = refl

-- a name that is nothing but a tag stays
tag_alone : without_tags (codes "/FontName /ABCDEF+ def", []) ≡ (codes "/FontName /ABCDEF+ def", [])
unfolding first_at tag name_marker behind_tags
tag_alone = refl

-- the first name that has its slash is the font's
second_name : without_tags (codes "/FontName dup /FontName /ABCDEF+Tiny def", []) ≡ (codes "/FontName dup /FontName /Tiny def", [])
unfolding first_at tag name_marker behind_tags
second_name = refl

-- the name loses its tag wherever a word begins with it, also in the first line
everywhere : without_tags (codes "%!PS-AdobeFont-1.0: ABCDEF+Tiny 1 /FullName (ABCDEF+Tiny) /FontName /ABCDEF+Tiny def", codes " % ABCDEF+Tiny")
    ≡ (codes "%!PS-AdobeFont-1.0: Tiny 1 /FullName (Tiny) /FontName /Tiny def", codes " % Tiny")
unfolding first_at tag name_marker behind_tags
everywhere = refl

-- so does a longer word, as where a version follows at once; within a word it stays, and so does a name with another tag
elsewhere : without_tags (codes "ABCDEF+TinyBold XABCDEF+Tiny GHIJKL+Tiny /FontName /ABCDEF+Tiny def", [])
    ≡ (codes "TinyBold XABCDEF+Tiny GHIJKL+Tiny /FontName /Tiny def", [])
unfolding first_at tag name_marker behind_tags
elsewhere = refl

-- where the name has no tag, none is taken elsewhere
untagged_name : without_tags (codes "/FullName (ABCDEF+Tiny) /FontName /Tiny def /X /GHIJKL+Y", [])
    ≡ (codes "/FullName (ABCDEF+Tiny) /FontName /Tiny def /X /GHIJKL+Y", [])
unfolding first_at tag name_marker behind_tags
untagged_name = refl

-- where the head has no name, that of the clear tail is the font's
behind_encoding : without_tags (codes "%! ABCDEF+Tiny ", codes " /FontName /ABCDEF+Tiny def ") ≡ (codes "%! Tiny ", codes " /FontName /Tiny def ")
unfolding first_at tag name_marker behind_tags
behind_encoding = refl

-- a word with another tag before the whole name stays, and so does one that has the last of the name's tags alone
longer_tags : without_tags (codes "GHIJKL+ABCDEF+Tiny /FontName /ABCDEF+Tiny def", []) ≡ (codes "GHIJKL+ABCDEF+Tiny /FontName /Tiny def", [])
unfolding first_at tag name_marker behind_tags
longer_tags = refl

last_tag_alone : without_tags (codes "GHIJKL+Tiny ABCDEF+GHIJKL+TinyBold /FontName /ABCDEF+GHIJKL+Tiny def", [])
    ≡ (codes "GHIJKL+Tiny TinyBold /FontName /Tiny def", [])
unfolding first_at tag name_marker behind_tags
last_tag_alone = refl

-- the name of the head is the font's, whatever that of the clear tail is
head_first : without_tags (codes "/FontName /Tiny def ABCDEF+Other", codes " /FontName /ABCDEF+Other def") ≡
    (codes "/FontName /Tiny def ABCDEF+Other", codes " /FontName /ABCDEF+Other def")
unfolding first_at tag name_marker behind_tags
head_first = refl
