pub mod RoomLaws
pub mod TurnLaws
