-- The equations of tests, by which `search flags` follows a branch of the code into the same branch of a definition.
-- Assumes nothing.
use borrow.Author.Tests.{lt-ltb, le-ltb, le-leb, lt-leb, eq-eqb, ne_eqb}

pub ruleset flags = (lt-ltb, le-ltb, le-leb, lt-leb, eq-eqb, ne_eqb)
