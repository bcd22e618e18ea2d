pub mod Calls
pub mod Sending
pub mod Counting
pub mod Replied
pub mod Silent
pub mod Standing
