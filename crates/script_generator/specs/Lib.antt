pub mod Scripts
