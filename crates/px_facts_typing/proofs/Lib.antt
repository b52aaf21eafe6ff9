mod ExamplesClauses
mod ExamplesKinds
mod ExamplesMethods
mod ExamplesRows
