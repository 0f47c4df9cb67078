-- Seven pages are to be believed, in this order. `Contents` says what a table holds and how it lies in memory. `History` says which updates finish in a history and what table they make; `Runs` what a run of calls is. The theorem `history` of
-- proofs/Runs.antt ties the two. `Receiver` says what a receiver does with each byte, PDU and ask; `Promises` what each public function promises of the memory lent to it; `Receives` folds the receiver's steps over a history,
-- and `memory-is` (proofs/Receives.antt) says that memory is that. `Fits` says which numbers the code can hold. `Private` is no one's
-- promise to a caller: it holds what the private functions of src/lib.rt promise each other, and nothing on the other pages rests on it.
pub mod Contents
pub mod History
pub mod Runs
pub mod Receiver
pub mod Promises
pub mod Receives
pub mod Fits
pub mod Private
