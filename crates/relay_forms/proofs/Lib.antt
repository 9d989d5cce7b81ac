pub use Rattle.relay_io.proofs as relay_io_laws
pub mod Pieces
pub mod Numbers
pub mod WholeLines
mod FirstLine
pub mod LineParts
pub mod ProgressLaws
pub mod PutLaws
pub mod FileLaws
pub mod Opening
pub mod ArtifactLines
pub mod Decimals
