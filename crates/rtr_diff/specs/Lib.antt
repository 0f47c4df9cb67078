-- What is handed over to be written.
pub mod Printing
