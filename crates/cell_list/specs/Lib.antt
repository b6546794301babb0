pub mod CellLists
