-- What is written of a font is read back.
pub mod ClearWritten
pub mod EntriesWritten
pub mod FontAgain
pub mod LengthLemmas
pub mod PrivateWritten
pub mod RoundTrip
pub mod SplitWritten
pub mod WriteAnswers
