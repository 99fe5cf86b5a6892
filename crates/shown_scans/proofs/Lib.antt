pub mod PlacesRise
pub mod ScannedWords
pub mod ScansShown
pub mod CapturesShown
