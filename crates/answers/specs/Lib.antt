-- What the contracts cite: the lines of the output, and what it is to put them into a sheet.
pub mod Answers
pub mod Sheets
