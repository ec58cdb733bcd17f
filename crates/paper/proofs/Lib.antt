-- PaperCases: the table, computed.
pub mod PaperCases
