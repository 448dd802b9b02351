pub mod Digits
pub mod Steps
pub mod RoundTrip
pub mod Only
pub mod Fields
