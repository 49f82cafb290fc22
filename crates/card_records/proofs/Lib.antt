-- Laws of records as structs. Assumes nothing.
pub mod FactLaws
