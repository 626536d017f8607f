pub mod Wide
pub mod Growing
pub mod Declared
pub mod Whole
pub mod Making
pub mod Going
pub mod Results
pub mod Looking
