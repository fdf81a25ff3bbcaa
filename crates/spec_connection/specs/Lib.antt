pub mod Routes
pub mod Answered
pub mod Exchanges
pub mod Serving
