pub mod Val
pub mod Operate
pub mod Graph
