pub mod LimitLaws
pub mod Examples
pub mod BodyLaws
