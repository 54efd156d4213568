pub mod Streams
pub mod Causes
pub mod Gathering
pub mod Lines
pub mod Blocks
pub mod Pieces
pub mod NextByte
pub mod KeptBytes
