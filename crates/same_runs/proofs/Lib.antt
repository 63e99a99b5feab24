pub mod FollowsLemmas
mod Examples
