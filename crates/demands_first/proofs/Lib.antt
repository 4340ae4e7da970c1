pub mod Facts
pub mod FirstTimelines
pub mod FirstListing
pub mod FirstLines
pub mod FirstChain
pub mod FirstPlain
pub mod FirstTables
