-- What is left open of a file, and which calls were made of it.
pub mod OpenFacts
pub mod HappenedCalls
