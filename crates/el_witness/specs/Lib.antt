pub mod Meter
pub mod MeterRun
pub mod Bench
pub mod Operators
pub mod Targets
pub mod RuleRows
pub mod LoopRows
