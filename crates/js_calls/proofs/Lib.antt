pub mod CallSteps
pub mod Counts
pub mod Declared
pub mod Joined
pub mod NodeTrees
pub mod Programmed
pub mod FilledBodies
pub mod Runnable
