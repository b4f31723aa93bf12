-- Laws of a choice by what is left of the list, which the layers above cite.
pub mod ReaderLaws
