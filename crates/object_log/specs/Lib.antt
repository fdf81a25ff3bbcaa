pub mod Puts
pub mod Pasts
pub mod Slots
pub mod Room
pub mod ObjectLog
pub mod Standing
pub mod IsPage
pub mod Histories
