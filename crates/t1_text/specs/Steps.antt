-- Steps by which kept texts are rewritten piece by piece.
use Rattle.t1_text.specs.{declared.rewriting.Step.{Step}, declared.rewriting.Step.TheVariants.{Unnumbered, Untagged}, Rewriting.{Piece}, Identity.{unnumbered_piece}, Tags.{untagged_piece}}

-- what a step puts in place of the first piece of a text
abbrev pub piece_of : Step → Piece
piece_of Unnumbered = unnumbered_piece
piece_of (Untagged name) = untagged_piece name.now
