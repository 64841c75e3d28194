pub mod RowLaws
pub mod OnlyRow
pub mod Each
