pub mod Numbers
pub mod Nuclei
pub mod Checks
