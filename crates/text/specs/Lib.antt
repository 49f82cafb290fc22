-- Rules typed as text, in the words of request A1. The meaning, to be read in order: Words, Grammar, Unfold, Parts, Translate.
-- The machine, which the theorems tie to it: Machine, Reader, Translator, and what the code keeps of it: Shape, Scope, Emit, Held.
pub mod Words
pub mod Grammar
pub mod Unfold
pub mod Parts
pub mod Translate
pub mod Machine
pub mod Reader
pub mod Translator
pub mod Shape
pub mod Scope
pub mod Emit
pub mod Held
