mod Listing
mod Nodes
mod Chains
mod New
