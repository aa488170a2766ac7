pub mod Rows
pub mod MappedRows
pub mod FlushRows
