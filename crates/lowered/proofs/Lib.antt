pub mod MatchLaws
pub mod Zeros
