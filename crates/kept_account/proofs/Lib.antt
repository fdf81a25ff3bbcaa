pub mod Shallow
pub mod ShallowRules
pub mod ShallowObjects
pub mod SoundShape
pub mod Keepables
pub mod CallTexts
pub mod Keeping
