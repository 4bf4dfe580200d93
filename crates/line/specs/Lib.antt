pub mod Text
pub mod FloatText
