pub mod Bulletins
pub mod Group
pub mod RoundRefusals
