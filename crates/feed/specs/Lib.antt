-- What the contracts cite: what a block leaves.
pub mod Feeds
