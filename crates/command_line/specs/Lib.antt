pub mod Commands
pub mod KeptWords
pub mod ListenKeptWords
pub mod WebsocketWords
pub mod Shown
pub mod SlotWords
