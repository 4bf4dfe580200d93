pub mod AtLeastOne
