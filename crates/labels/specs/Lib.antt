pub mod Packing
pub mod Label
pub mod Newer
