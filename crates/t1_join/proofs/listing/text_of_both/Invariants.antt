use Rattle.std.{proofs.Common.{◌≡◌, ◌++◌}, specs.Prelude.{flat_map}}
use Rattle.t1_join.specs.{ListingText.{subr_line, glyph_line, text_of}, ListingJoin.{joined_listing}}
use Rattle.std.specs.FinMap as fin
use Rattle.t1_join.proofs.listing.text_of_both.Given as goal

abbrev pub invariant-loop-index : goal.invariant-loop-index
invariant-loop-index l = l.out.items ++ flat_map subr_line l.index-iterator ≡ flat_map subr_line (fin.entries (joined_listing l.left l.right).subrs)

abbrev pub invariant-loop-name : goal.invariant-loop-name
invariant-loop-name l = l.out.items ++ flat_map glyph_line l.name-iterator ≡ text_of (joined_listing l.left l.right)
