pub mod ByteExpressions
pub mod Encoding
pub mod Positions
pub mod States
pub mod Lookahead
pub mod Laws
