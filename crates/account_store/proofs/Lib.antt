pub mod FollowLemmas
pub mod OpeningLemmas
pub mod ShownLemmas
pub mod LiveLemmas
pub mod EarlierLemmas
