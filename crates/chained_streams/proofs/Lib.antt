pub mod LinkRuns
