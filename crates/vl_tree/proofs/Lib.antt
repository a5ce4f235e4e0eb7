pub mod Tokens
pub mod ExprNames
pub mod StmtNames
pub mod TreeNames
pub mod Parts
pub mod LeftSides
