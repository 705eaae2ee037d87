-- Each run of the tests, then its passes, and a turnstile of them.
pub mod ToggleRun
pub mod Holdings
pub mod TrioRun
pub mod TestPasses
pub mod TestTurnstile
