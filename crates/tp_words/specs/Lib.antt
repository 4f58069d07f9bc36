pub mod Rules
pub mod Said
pub mod Words
