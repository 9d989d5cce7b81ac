pub mod Written
pub mod Streams
pub mod Courses
pub mod Owed
pub mod Finished
pub mod BulkLaws
pub mod OneLine
pub mod SummaryLaws
