pub mod Touched
pub mod InOrder
pub mod Arriving
pub mod ComingBack
pub mod SameLengths
pub mod ListedPages
