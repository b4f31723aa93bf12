-- The laws by which the code is proved: of the variables, of the words of the stack, and of a call and a return as wholes.
pub mod VarLaws
pub mod StackLaws
pub mod CallLaws
pub mod ReturnLaws
