pub mod Places
pub mod Terms
pub mod ExprPlaces
pub mod StmtPlaces
pub mod FormPlaces
