-- What is left of the kinds of a node.
mod OtherNodes
