-- In the order in which to read.
pub mod JobStages
pub mod RunStage
pub mod DemoStage
pub mod Job
pub mod Interleavings
pub mod Status
pub mod Laws
pub mod Listed
