pub mod Row
pub mod Search
pub mod Copy
pub mod Put
