pub mod LetterClasses
