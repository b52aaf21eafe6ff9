mod CallAssembly
mod DemoAssembly
mod ExamplesCodes
mod ExamplesEntries
mod ExamplesFlow
mod ExamplesLinks
mod ExamplesMet
mod ExamplesMethods
mod ExamplesNames
mod ExamplesNumbers
mod ExamplesOpcodes
mod ExamplesOperands
mod ExamplesOverriding
mod ExamplesRaw
mod ExamplesReach
mod ExamplesTypes
pub mod InstrWords
mod ListWords
mod NameAssembly
mod ShapeAssembly
mod ShopAssembly
pub mod SigWords
mod SquareAssembly
mod TableWords
mod VirtualAssembly
