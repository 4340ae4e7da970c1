pub mod Choice
pub mod Limits
pub mod Scan
pub mod ScanDown
pub mod Fill
pub mod Position
