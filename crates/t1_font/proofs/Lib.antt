mod Sealings
pub mod Lasts
pub mod PartsOfOne
pub mod Buffers
pub mod Drains
pub mod HeldLemmas
pub mod Copies
pub mod CodeTables
pub mod EachEntry
pub mod MadeTables
pub mod FontShells
pub mod Arrays
pub mod FontReaders
pub mod Weights
pub mod FileParts
pub mod NoLonger
pub mod FromPieces
pub mod AnswersRight
pub mod Lengths
pub mod canonical
pub mod ValueLaws
pub mod Spelled
pub mod Reasoned
pub mod MapLemmas
pub mod ByteLemmas
pub mod Kept
pub mod read_fonts
pub mod Widely
pub mod Mended
pub mod CutEntries
pub mod CutLoops
pub mod LentTables
pub mod FilledTables
pub mod normal_fonts
pub mod UntestedFonts
mod Presorted
mod NormalRows
