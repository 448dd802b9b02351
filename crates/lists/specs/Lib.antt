pub mod Below
pub mod Inner
