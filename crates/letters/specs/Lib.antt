pub mod Alphabet
pub mod Rows
pub mod Writing
pub mod LettersRead
pub mod Decoding
