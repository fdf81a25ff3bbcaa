pub mod Finding
pub mod SwitchTexts
