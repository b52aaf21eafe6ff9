pub mod PlaceEnds
pub mod PlaceTypes
pub mod RowCounts
pub mod RowSetting
pub mod StoreMade
pub mod StoreStays
