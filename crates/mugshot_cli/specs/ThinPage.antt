-- Thin pages: their statements, their steps, and their runs.
pub mod Reading
pub mod Machine
pub mod Run
pub mod Tracing
pub mod inner
