pub mod AnswerLaws
pub mod ScriptLaws
