-- Laws of the reader: a step is the piece's fate (step-right), what a whole card is read as, and that there is one finding (Findings).
-- Assumes nothing.
pub mod StepLaws
pub mod Findings
