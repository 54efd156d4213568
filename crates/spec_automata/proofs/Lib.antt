pub mod ByteSetLemmas
pub mod ScalarLemmas
pub mod PartLemmas
pub mod DifferenceLemmas
pub mod EncodingLemmas
pub mod BorderLemmas
