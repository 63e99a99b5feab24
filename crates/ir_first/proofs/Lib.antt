pub mod Settled
mod Examples
