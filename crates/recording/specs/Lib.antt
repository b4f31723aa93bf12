-- The numbers that a lent buffer has, and what is recorded with a node's value.
pub mod CodePushes
pub mod CodeRecords
