-- Adya's definitions over this store's histories, and the laws.
pub mod Adya
pub mod Laws
