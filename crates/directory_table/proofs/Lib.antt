pub mod OnlyRow
pub mod RowLaws
