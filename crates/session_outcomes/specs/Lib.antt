pub mod Earlier
pub mod Hindered
pub mod Runs
pub mod Numbers
pub mod Reading
pub mod Told
pub mod Turning
pub mod Scenes
