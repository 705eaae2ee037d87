-- Laws of the definitions, then the steps that keep the rule, then what follows from it.
pub mod GetElemLemmas
pub mod EventLaws
pub mod GraphLaws
pub mod PlaceLaws
pub mod LogCounts
pub mod PassAtRest
pub mod StepKeepsRule
pub mod Looks
pub mod Draws
pub mod Publishes
pub mod RuleAtStart
pub mod ValueSteps
pub mod Hands
pub mod RowLaws
pub mod TableProgress
pub mod LegalLogs
