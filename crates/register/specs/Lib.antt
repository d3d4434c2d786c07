pub mod Totals
pub mod Register
pub mod Sound
pub mod Printed
pub mod Views
pub mod Weighed
pub mod Amending
