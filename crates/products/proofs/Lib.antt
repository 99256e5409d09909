pub mod Masks
pub mod WordPhase
pub mod RowLaws
pub mod PartLaws
pub mod InPlace
pub mod ActLaws
pub mod Determined
pub mod Xor
