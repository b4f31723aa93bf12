-- Check 15: whether a table can have a record.
pub mod Record
pub mod CodeRecord
pub mod RecordPromises
