pub mod Classes
pub mod Posted
pub mod Kinds
pub mod Placed
