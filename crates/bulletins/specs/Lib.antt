pub mod Sets
pub mod Order
