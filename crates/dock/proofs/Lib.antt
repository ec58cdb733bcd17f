-- RouteLines: the route lines, van by van. Reach: what holds of a fleet that steps have led to.
-- FreshRows: the fresh fleet put into rows. LineLaws: the lines of a listing, step by step.
pub mod RouteLines
pub mod Reach
pub mod FreshRows
pub mod LineLaws
