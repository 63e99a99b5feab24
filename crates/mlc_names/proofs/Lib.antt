pub mod NamesLemmas
mod StandardWordsExamples
