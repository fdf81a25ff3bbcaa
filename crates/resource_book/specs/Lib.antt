pub mod RoomView
pub mod Rounds
pub mod SharedSeconds
