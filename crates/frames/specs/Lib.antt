pub mod Kind
pub mod Message
pub mod Frame
pub mod Free
pub mod Sending
pub mod Reading
pub mod Demands
pub mod Exam
