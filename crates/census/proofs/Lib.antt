-- The laws behind the proofs of the functions. Assumes nothing.
pub mod EventLaws
pub mod TellLaws
pub mod PassLaws
pub mod LargeLaws
pub mod CommaLaws
pub mod ManyLaws
pub mod NameLaws
pub mod TableLaws
pub mod NamesPass
pub mod CallLaws
pub mod MarkLaws
pub mod ClashPass
pub mod SettleLaws
pub mod LooseLaws
pub mod EnterLaws
pub mod FreePass
