-- What the test programs share: check numbers.
pub mod Checks
