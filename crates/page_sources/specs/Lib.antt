pub mod FileForms
pub mod MemoryForms
pub mod PageReads
