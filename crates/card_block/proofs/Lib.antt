-- Laws of one block, cited by the functions' proofs, and the theorem that a judgement is the piece's fate (Judgements). Assumes nothing.
pub mod ShapeLaws
pub mod TestLaws
pub mod WalkLaws
pub mod JudgeLaws
pub mod Judgements
pub mod StayLaws
pub mod PieceEnds
