pub mod WrittenBack
pub mod ReadBack
pub mod Claims
pub mod Examples
