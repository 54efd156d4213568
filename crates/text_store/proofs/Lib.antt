pub mod FrontLemmas
pub mod ScalarTextLemmas
pub mod KindEndLemmas
pub mod LexingLemmas
pub mod TextLemmas
pub mod TrimmingLemmas
pub mod TokenEditLemmas
pub mod EditLemmas
