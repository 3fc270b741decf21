pub mod FromPowerUp
pub mod Unique
