-- The proofs' own laws.
pub mod Same
