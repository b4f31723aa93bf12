-- The laws by which the code of the procedures is proved.
pub mod MapLaws
pub mod OwnerLaws
pub mod SummaryLaws
pub mod RowLaws
