pub mod MaskTables
pub mod Gathered
