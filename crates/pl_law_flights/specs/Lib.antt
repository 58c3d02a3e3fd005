pub mod Routes
pub mod OnTheWay
pub mod Standing
pub mod Given
