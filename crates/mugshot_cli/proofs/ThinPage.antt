-- The runs of thin pages.
pub mod PlainSteps
pub mod InputsSteps
pub mod ReplayIsPlain
pub mod Joined
pub mod Arguments
pub mod Statements
pub mod Visits
