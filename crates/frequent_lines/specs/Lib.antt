pub mod Environs
