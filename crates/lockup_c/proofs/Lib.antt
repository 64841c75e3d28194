pub mod MadeLemmas
pub mod HandleSteps
