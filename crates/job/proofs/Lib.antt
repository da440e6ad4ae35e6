pub mod SectionLemmas
pub mod JobLemmas
pub mod InputLemmas
