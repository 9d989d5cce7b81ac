pub use Rattle.store_show.proofs as store_show_laws
mod LineLaws
