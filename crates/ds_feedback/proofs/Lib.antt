pub mod LinkLemmas
pub mod SequenceLemmas
