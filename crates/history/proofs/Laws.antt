-- What the reader answers to bytes by what they are, and the readers (rule 1.4); numbered places; the history of one call more; what is proved of
-- each call; clocks; what follows from the words of the book and the history.
pub mod ReaderTheorems
pub mod Places
pub mod Longer
pub mod Rows
pub mod Clocks
pub mod Words
