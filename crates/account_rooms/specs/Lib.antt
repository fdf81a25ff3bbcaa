pub mod Rooms
pub mod Covered
pub mod RoomChanges
pub mod RoomsView
pub mod Slots
pub mod Twice
pub mod Storing
pub mod PutAgain
