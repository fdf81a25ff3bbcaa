pub mod MadeUp
pub mod NumberedPast
pub mod MadeUpHistory
pub mod Forgotten
pub mod SomeHistory
