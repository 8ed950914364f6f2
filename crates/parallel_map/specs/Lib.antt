pub mod RightAnswers
pub mod TruePlaces
pub mod SlotValues
