pub mod CalendarLemmas
pub mod EventLemmas
pub mod GivenLemmas
pub mod MemberLemmas
pub mod NameLemmas
pub mod ResolvedLemmas
mod BookingLemmas
mod SameLemmas
mod ServerLemmas
pub mod SoundLemmas
pub mod SoundObjects
