pub mod Offsets
