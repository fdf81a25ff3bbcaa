pub mod Statuses
pub mod Headline
pub mod Starts
pub mod Runs
pub mod Shown
pub mod Completes
pub mod Determined
pub mod SiteIds
