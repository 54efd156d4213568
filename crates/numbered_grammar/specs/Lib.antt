pub mod Making
pub mod Nullable
pub mod Places
pub mod Ranks
pub mod RuleImplications
pub mod StepLinks
