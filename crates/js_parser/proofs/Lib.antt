pub mod Verdicts
pub mod Around
pub mod Fitting
pub mod Opening
pub mod Stating
pub mod Running
pub mod Numbers
