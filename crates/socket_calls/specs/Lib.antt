-- What is left open of a connection, and which calls were made of it.
pub mod OpenFacts
pub mod HappenedCalls
