mod StatesExample
mod GrammarExample
mod ExamplesLemmas
mod SessionExamples
mod TokenCases
