pub mod SizeChecks
pub mod LimitedSizes
pub mod SizesIn
pub mod GoodSizes
pub mod OrderedSizes
