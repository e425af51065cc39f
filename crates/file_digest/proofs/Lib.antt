pub mod FilePages
