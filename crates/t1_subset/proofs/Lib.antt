mod closing
mod Tokens
mod LastRuns
mod Within
mod LackTokens
mod Plain
pub mod state_tables
pub mod Telling
pub mod Answered
pub mod Lacking
pub mod Rejoining
