pub mod Booleans
pub mod Options
pub mod ListTests
pub mod DataLemmas
pub mod Appending
pub mod Crossing
pub mod KeyOrder
pub mod EditLemmas
pub mod MergeLemmas
pub mod MemberLemmas
pub mod SameLists
pub mod InOrderLemmas
mod DepthLemmas
pub mod TreeBack
