-- What the bench program prints: `Text`, byte by byte; `CodePuts`, what the code says of bytes put into a buffer.
pub mod Text
pub mod CodePuts
