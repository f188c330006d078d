pub mod Nest
pub mod Inside
pub mod Even
