pub mod Environ
