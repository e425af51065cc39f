pub mod Stages
pub mod Run
pub mod Scenes
pub mod Ending
pub mod Alike
