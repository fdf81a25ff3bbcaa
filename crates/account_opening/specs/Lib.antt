pub mod Opening
pub mod Again
