pub mod Content
pub mod Reading
pub mod Applied
pub mod Snapshot
pub mod Office
pub mod Laws
