-- The definitions that the contracts cite.
pub mod Tracks
pub mod Meetings
pub mod Covers
pub mod Parts
pub mod Hidden
pub mod Repeats
pub mod Kinds
pub mod Again
pub mod RuleMaps
pub mod RuleTracks
pub mod Timetables
