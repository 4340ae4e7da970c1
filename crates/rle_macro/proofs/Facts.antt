pub mod MacroStepCases
pub mod MacroStep
pub mod QuestionCases
