pub mod NormalSystem
pub mod forms
