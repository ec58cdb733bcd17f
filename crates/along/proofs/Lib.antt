-- Laws of the definitions in specs/, each file named after its own. Signed: signed numbers.
-- Facts: what a caller has ready.
pub mod Signed
pub mod TimeLaws
pub mod SpotLaws
pub mod RouteLaws
pub mod LoadLaws
pub mod NodeLaws
pub mod Mating
pub mod SetLaws
pub mod ReadyLaws
pub mod Walking
pub mod Facts
