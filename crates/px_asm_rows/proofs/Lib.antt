pub mod TableCounts
pub mod TableFacts
pub mod TableStays
pub mod TableTexts
pub mod TableTypes
