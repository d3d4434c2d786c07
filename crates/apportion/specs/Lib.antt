pub mod Split
pub mod Worked
pub mod WorkedCents
