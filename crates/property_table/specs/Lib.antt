pub mod Names
pub mod Table
pub mod OnePass
pub mod Values
