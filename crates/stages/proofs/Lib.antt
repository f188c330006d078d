pub mod RootLaws
pub mod TableLaws
