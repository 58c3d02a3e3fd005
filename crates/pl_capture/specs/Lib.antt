pub mod Capture
pub mod CaptureError
pub mod Field
pub mod Header
pub mod Record
pub mod Records
pub mod Spelling
