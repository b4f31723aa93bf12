-- Laws of the words of specs/, which the layers above cite.
pub mod TabLaws
pub mod FirstLaws
pub mod FallingLaws
pub mod CountLaws
pub mod BoolLaws
pub mod Flags
