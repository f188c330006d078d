-- The proofs' own laws.
pub mod Line
