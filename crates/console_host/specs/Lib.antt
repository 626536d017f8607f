pub mod Console
pub mod inner
