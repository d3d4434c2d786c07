pub mod Limits
pub mod Exact
pub mod Sums
pub mod Rounding
pub mod Views
