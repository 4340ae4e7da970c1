pub mod First
pub mod Second
pub mod Third
pub mod CaseTables
pub mod CaseRuns
pub mod Cases
