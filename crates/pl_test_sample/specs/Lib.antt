pub mod Passing
pub mod Asking
pub mod Accounts
pub mod Silence
pub mod Sending
pub mod Duties
pub mod Giving
