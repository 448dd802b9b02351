pub mod GroupLimits
