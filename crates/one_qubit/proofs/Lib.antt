pub mod OneRow
pub mod OneTurn
pub mod View
