mod Callers
mod Outcomes
mod Rejoined
