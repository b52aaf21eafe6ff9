pub mod Assignments
mod ExamplesAnswers
mod ExamplesClauses
mod ExamplesGates
mod ExamplesRefutations
mod ExamplesSums
mod ExamplesTrails
