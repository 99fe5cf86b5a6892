pub mod BothReadings
pub mod AlikeCases
