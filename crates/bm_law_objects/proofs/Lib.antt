pub mod Gathering
pub mod Replies
pub mod Chains
pub mod ReadsAlong
pub mod References
pub mod Naming
