pub mod Floor
pub mod CivilDay
pub mod Moments
pub mod Walls
pub mod Forms
pub mod LocalTimes
pub mod Durations
