pub mod PackingLaws
pub mod Packing
pub mod Word
pub mod Made
pub mod PackingExamples
pub mod LabelLaws
pub mod LabelExamples
pub mod NewerLaws
