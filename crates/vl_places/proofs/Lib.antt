pub mod Rows
pub mod Texts
pub mod Pieces
pub mod Files
pub mod Tokens
pub mod Breaks
