pub mod Heap
pub mod Content
pub mod Tree
