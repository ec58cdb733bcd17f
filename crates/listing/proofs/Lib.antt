-- PutLaws: one text put after another, and the room it takes. TextLaws: the digits' laws, fields, and how long a line is. Examples: lines of 01's listing, computed.
pub mod PutLaws
pub mod TextLaws
pub mod Examples
