pub mod Budgets
pub mod ReadLemmas
pub mod WriteLemmas
pub mod RunLemmas
pub mod ReaderLoops
pub mod MergeLemmas
pub mod WrittenSubsets
pub mod JoinLemmas
pub mod Refusals
pub mod FontLemmas
pub mod Walks
pub mod RejoinLemmas
pub mod Files
mod Lines
mod DiffLemmas
pub mod MendLemmas
pub mod OneAnswer
pub mod CutLemmas
pub mod CodeLemmas
pub mod DocumentLemmas
pub mod LevelLemmas
pub mod DocumentCommands
pub mod PageLemmas
pub mod FontPlaceLemmas
pub mod ExtractLemmas
