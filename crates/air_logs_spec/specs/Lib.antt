pub mod Form
pub mod Logs
pub mod Compare
