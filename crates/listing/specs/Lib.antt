-- Text: numbers and lines as bytes. Put: bytes put into a buffer.
pub mod Text
pub mod Put
