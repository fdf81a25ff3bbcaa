pub mod FreshDesk
pub mod SharedDesk
pub mod SoleDesk
pub mod Determined
pub mod Histories
pub mod InTurn
