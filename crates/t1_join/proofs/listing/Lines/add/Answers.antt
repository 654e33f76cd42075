use Rattle.std.proofs.Common.{subst}
use Rattle.t1_join.{specs.{Meaning.{of_number}, ListingMeaning.{IsListing}, ListingText.{subr, glyph}, LineMeaning.{line_entry, IsEntry}}, proofs.ListingLemmas.{entry_listed, table_added}}
use Rattle.t1_join.proofs.listing.Lines.add.Goals as goal

pub invariant_of-self : goal.invariant_of-self
invariant_of-self c =
    table_added (λ m. IsListing (record { subrs = m; glyphs = c.self.inside.glyphs })) c.self.inside.subrs c.add.new.self
    (of_number c.in-Subr.index) c.in-Subr.bytes c.add.result c.add.ensures.ok c.add.ensures.err c.self.invariant
    (entry_listed (record { subrs = c.self.inside.subrs; glyphs = c.self.inside.glyphs })
    (subr c.in-Subr.index c.in-Subr.bytes) c.self.invariant (subst (λ l. IsEntry (line_entry l)) c.in-Subr.is c.requires))

pub invariant_of-self-in-Glyph : goal.invariant_of-self-in-Glyph
invariant_of-self-in-Glyph c =
    table_added (λ m. IsListing (record { subrs = c.self.inside.subrs; glyphs = m })) c.self.inside.glyphs c.add-in-Glyph.new.self
    c.in-Glyph.name.now c.in-Glyph.bytes c.add-in-Glyph.result c.add-in-Glyph.ensures.ok c.add-in-Glyph.ensures.err c.self.invariant
    (entry_listed (record { subrs = c.self.inside.subrs; glyphs = c.self.inside.glyphs })
    (glyph c.in-Glyph.name.now c.in-Glyph.bytes) c.self.invariant (subst (λ l. IsEntry (line_entry l)) c.in-Glyph.is c.requires))
