-- How slices hold nodes.
pub mod Nodes
pub mod Chains
