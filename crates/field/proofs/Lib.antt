pub mod Remainders
pub mod Primality
pub mod Moduli
