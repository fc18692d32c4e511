pub mod Rules
pub mod PlanFlags
pub mod Numbers
pub mod Sums
