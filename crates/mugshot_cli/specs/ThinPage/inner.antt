-- What the code of thin pages keeps.
pub mod Parts
pub mod PlainState
pub mod InputsState
pub mod LastLine
