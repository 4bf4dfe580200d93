pub mod Rooting
pub mod Lengthening
pub mod Cases
pub mod Believe
pub mod RootServes
pub mod Bounded
pub mod RoundsTo
