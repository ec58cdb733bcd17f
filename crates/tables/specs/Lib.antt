-- Cell: a table of a sheet and its entries. For contracts: Square (a table held as numbers).
pub mod Cell
pub mod Square
