pub mod PlaceValue
