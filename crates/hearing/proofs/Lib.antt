pub mod RecordParts
pub mod RecordCases
pub mod SameBytes
