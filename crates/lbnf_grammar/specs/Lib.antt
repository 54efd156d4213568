pub mod Grammars
pub mod MadeRules
pub mod Numbering
pub mod Tables
pub mod Checking
pub mod PredefinedKinds
