-- What private functions promise: forms that follow the code, each tied by a law to a definition of the folder above; and what they leave as it was.
pub mod Profile
pub mod Systems
