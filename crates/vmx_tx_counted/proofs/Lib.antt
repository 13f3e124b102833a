mod Chains
mod Counts
mod CountSteps
