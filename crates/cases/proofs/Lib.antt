-- The proofs' own laws.
pub mod Case
