pub mod Texts
pub mod Switches
pub mod Links
pub mod Exchanges
pub mod Turns
pub mod Serving
