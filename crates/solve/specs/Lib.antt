pub mod Rule
pub mod Work
pub mod forms
