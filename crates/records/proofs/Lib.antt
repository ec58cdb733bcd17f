-- Laws of the definitions in specs/, each file named after its own.
pub mod TrailLaws
pub mod UndoLaws
pub mod UndoingLaws
