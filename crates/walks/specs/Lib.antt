-- What the walks over diagrams promise.
pub mod Walks
pub mod Desks
pub mod Complements
