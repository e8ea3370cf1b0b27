pub mod FindIn
pub mod Inside
