mod FlatExact
mod FlatExamples
pub mod FlatReads
pub mod LastKeys
pub mod MarkTokens
mod NoMarks
mod Stack
pub mod Values
