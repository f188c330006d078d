-- What the dispatch asks for and answers. Assumes nothing.
pub mod Ready
