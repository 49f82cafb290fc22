-- The laws of trees, tables and room.
pub mod Tests
pub mod BitsLaws
pub mod TreeLaws
pub mod FunctionLaws
pub mod TableLaws
pub mod ShowLaws
pub mod RoomLaws
pub mod KeptLaws
pub mod ReadLaws
pub mod CanonicalLaws
pub mod SizesLaws
pub mod LayoutLaws
pub mod IgnoreLaws
