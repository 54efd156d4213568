pub mod PlaceLemmas
pub mod MakingLemmas
pub mod NullableLemmas
pub mod RuleImplicationLemmas
pub mod StepLinkLemmas
pub mod RankLemmas
