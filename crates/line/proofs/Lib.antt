pub mod FloatLaws
pub mod FloatSamples
pub mod Lines
