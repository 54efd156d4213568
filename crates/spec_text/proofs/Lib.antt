pub mod ScalarsLemmas
