pub mod Splitting
pub mod FieldValues
pub mod LinesRead
pub mod TurnRanges
