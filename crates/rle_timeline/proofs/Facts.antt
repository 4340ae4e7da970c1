pub mod EngineCases
