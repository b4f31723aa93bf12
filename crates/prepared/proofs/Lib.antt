-- The theory of a run's own copy of its table: `SameLaws`, that it runs as the table does, `VarLaws`, of its variables, and `PasteLaws`, of
-- numbers pasted into a list, which the crates above cite; and the laws by which the code is proved.
pub mod SameLaws
pub mod VarLaws
pub mod PasteLaws
pub mod FormLaws
pub mod OwnLaws
