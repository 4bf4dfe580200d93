-- What private functions promise: forms that follow the code, each tied by a law or a promise to a definition of the folder above.
pub mod Building
