pub mod FileLemmas
pub mod LineAnswers
pub mod PhraseLemmas
pub mod SyntaxLemmas
