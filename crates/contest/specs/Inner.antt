-- What the functions promise each other. The contract of the call and its theorems do not speak of
-- it.
pub mod KnownSets
