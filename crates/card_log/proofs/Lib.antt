-- Laws of logs in rows: rows (RowLaws), blocks (FillLaws), and that a log is read back and has one outcome (Logs). Assumes nothing.
pub mod RowLaws
pub mod FillLaws
pub mod Logs
