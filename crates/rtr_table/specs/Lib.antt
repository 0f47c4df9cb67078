-- What the program's functions promise: the receiver's memory is at the end of a run (Feeding), and what is handed over to be printed are the
-- listing's lines (Printing). What is read and written stands outside.
pub mod Feeding
pub mod Printing
