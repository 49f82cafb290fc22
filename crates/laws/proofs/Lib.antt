-- The laws of references, and what they rest on.
pub mod FunctionLaws
pub mod CallLaws
pub mod SideLaws
pub mod FormLaws
pub mod References
pub mod OneOutcome
