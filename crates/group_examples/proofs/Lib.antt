pub mod Sixteen
pub mod LimitsKept
