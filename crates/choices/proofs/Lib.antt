-- The theory of the choice writer: how many numbers a step has, which arrays the reduced run holds reduced, the copy of a plain table, the loop of
-- the writer, what it says, and demand 3.
pub mod BoundLaws
pub mod HeldLaws
pub mod CopyLaws
pub mod WriteLaws
pub mod SaidLaws
pub mod Demand3Proof
