pub mod Stream
pub mod Section
pub mod Job
pub mod Input
pub mod NoJob
