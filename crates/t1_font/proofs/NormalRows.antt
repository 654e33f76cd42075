-- White space that is squeezed, lines that number a font, and what is left of texts where a step is taken or not.
use Rattle.std.{proofs.Common.{◌≡◌, [], ◌∷◌, refl}, specs.Prelude.{codes}}
use Rattle.t1_grammar.specs.Grammar.{first_at}
use Rattle.t1_bytes.specs.{White.{gap}, Eexec.{eexec_marker}}
use Rattle.t1_font.specs.declared.normal_texts.KeptText.TheVariants.{Head, ClearTail}
use Rattle.t1_text.specs.{Words.{decimal, keyword}, Markers.{encoding_marker}, FontTest.{eexec_there}, Squeezing.{squeezed_piece, squeezed}}
use Rattle.t1_text.specs.{Identity.{one_blank, unique_id, extended_id, access, defining, identity_line, identity_comment, unnumbered_piece, unnumbered}, Tags.{tag, name_marker, behind_tags}}
use Rattle.t1_font.specs.NormalTexts.{normal_text, normal_clear}

-- ---- white space

blanks : squeezed (codes "a  b \t c\td") ≡ codes "a b c d"
unfolding squeezed_piece
blanks = refl

-- a run with a line's end is one, whatever else it has
lines : squeezed (codes "a \n b\r\nc\r\rd\n\n\ne\t\r") ≡ codes "a\nb\nc\nd\ne\n"
unfolding squeezed_piece
lines = refl

-- NUL and FF stay, and end a run
others : squeezed (32 ∷ 0 ∷ 32 ∷ 12 ∷ 9 ∷ []) ≡ 32 ∷ 0 ∷ 32 ∷ 12 ∷ 32 ∷ []
unfolding squeezed_piece
others = refl

-- a comment ends where it ended
comment : squeezed (codes "%  a \r\n/b") ≡ codes "% a\n/b"
unfolding squeezed_piece
comment = refl

-- ---- lines that number a font

numbered : unnumbered (codes "a\n/UniqueID 5000793 def\n/b") ≡ codes "a\n/b"
unfolding decimal keyword one_blank unique_id extended_id access defining identity_line identity_comment unnumbered_piece
numbered = refl

-- with an access word, by other words for `def`, in the first line, before the end of the dictionary
others_words : unnumbered (codes "/UniqueID 1 readonly def\n/UniqueID 2 noaccess ND\n/XUID [1 2 30] |-\n/XUID[1]readonly def\ncurrentdict end")
    ≡ codes "currentdict end"
unfolding decimal keyword one_blank unique_id extended_id access defining identity_line identity_comment unnumbered_piece
others_words = refl

-- the last line of a text, which a marker follows, and one before a comment
last_lines : unnumbered (codes "/UniqueID 1 def\n% a comment\n/a 1 def\n/UniqueID 2 def\n") ≡ codes "% a comment\n/a 1 def\n"
unfolding decimal keyword one_blank unique_id extended_id access defining identity_line identity_comment unnumbered_piece
last_lines = refl

-- before `dup`, within a line, without its end, and other names
kept_lines : unnumbered (codes "/UniqueID 2 def\ndup\n/a 1 def /UniqueID 3 def\n/UniqueIDs 4 def\n/UniqueID 5 put\n/UniqueID 6 def")
    ≡ codes "/UniqueID 2 def\ndup\n/a 1 def /UniqueID 3 def\n/UniqueIDs 4 def\n/UniqueID 5 put\n/UniqueID 6 def"
unfolding decimal keyword one_blank unique_id extended_id access defining identity_line identity_comment unnumbered_piece
kept_lines = refl

-- of a comment its `%` stays, before an entry or at the end of a text, and behind a line that goes
in_comments : unnumbered (codes "%/UniqueID 0 def\n/a 1 def\n/UniqueID 1 def\n%/XUID[1 2] readonly def\n") ≡ codes "%\n/a 1 def\n%\n"
unfolding decimal keyword one_blank unique_id extended_id access defining identity_line identity_comment unnumbered_piece
in_comments = refl

-- comments with another text, one before `dup`, one behind an entry, and an empty one
kept_comments : unnumbered (codes "% /UniqueID 1 def\n%%/UniqueID 2 def\n%/UniqueID 3 def %\n%/UniqueID 4 def\ndup\n/a 5 def %/UniqueID 6 def\n%\n/b 7 def")
    ≡ codes "% /UniqueID 1 def\n%%/UniqueID 2 def\n%/UniqueID 3 def %\n%/UniqueID 4 def\ndup\n/a 5 def %/UniqueID 6 def\n%\n/b 7 def"
unfolding decimal keyword one_blank unique_id extended_id access defining identity_line identity_comment unnumbered_piece
kept_comments = refl

-- ---- steps that are taken

-- white space is squeezed first, so a line that ends in CR and LF is one
both_steps : normal_text Head (codes "%!\r\n/UniqueID  7 def \r\n/a") ≡ codes "%!\n/a"
unfolding first_at gap eexec_marker encoding_marker eexec_there squeezed_piece decimal keyword one_blank unique_id extended_id access defining identity_line
    identity_comment unnumbered_piece
both_steps = refl

-- a comment of Latin Modern
comment_of_number : normal_text ClearTail (codes "\n%/UniqueID 0 def\n/FontBBox{0 0 1 1}readonly def\ncurrentfile eexec")
    ≡ codes "\n%\n/FontBBox{0 0 1 1}readonly def\ncurrentfile eexec"
unfolding first_at gap eexec_marker encoding_marker eexec_there squeezed_piece decimal keyword one_blank unique_id extended_id access defining identity_line
    identity_comment unnumbered_piece
comment_of_number = refl

-- the same as cairo writes it
blanks_of_cairo : normal_text ClearTail (codes "\n%               \n/FontBBox{0 0 1 1}readonly def\ncurrentfile eexec")
    ≡ codes "\n%\n/FontBBox{0 0 1 1}readonly def\ncurrentfile eexec"
unfolding first_at gap eexec_marker encoding_marker eexec_there squeezed_piece decimal keyword one_blank unique_id extended_id access defining identity_line
    identity_comment unnumbered_piece
blanks_of_cairo = refl

-- a head whose name without tags would begin an Encoding keeps them, but its white space is squeezed
encoding : normal_clear (codes "/FontName  /ABCDEF+Encoding def", codes " currentfile eexec")
    ≡ (codes "/FontName /ABCDEF+Encoding def", codes " currentfile eexec")
unfolding first_at gap eexec_marker encoding_marker eexec_there squeezed_piece decimal keyword one_blank unique_id extended_id access defining identity_line
    identity_comment unnumbered_piece tag name_marker behind_tags
encoding = refl

encodings : normal_clear (codes "/FontName /ABCDEF+Encodings def", codes " currentfile eexec") ≡ (codes "/FontName /Encodings def", codes " currentfile eexec")
unfolding first_at gap eexec_marker encoding_marker eexec_there squeezed_piece decimal keyword one_blank unique_id extended_id access defining identity_line
    identity_comment unnumbered_piece tag name_marker behind_tags
encodings = refl
