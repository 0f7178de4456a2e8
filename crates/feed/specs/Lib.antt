-- What a stream is read as, what a feed gives back, and what is proved of the two. Nothing is proved here.

pub mod Feed
pub mod Opening
pub mod Reading
pub mod Push
pub mod Runs
pub mod FeedTheorems
pub mod Examples
