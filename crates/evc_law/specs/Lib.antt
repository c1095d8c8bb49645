pub mod General
pub mod Demand3
pub mod Invisible
pub mod Edges
pub mod Reports
