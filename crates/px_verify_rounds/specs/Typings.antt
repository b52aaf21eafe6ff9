-- The typing of a method as it is kept.
use Rattle.std.specs.Prelude.{◌≡◌, List, Option, Some, None, map, Ok, Err}
use Rattle.std.specs.List.{AllByRecursion}
use Rattle.px_verify_kinds.specs.Stacks.{IsStack, IsStackIn, kinds_in, kinds_of}
use Rattle.px_verify_kinds.specs.declared.stacks.Cell.{Cell}
use Rattle.px_verify_flow.specs.Outcome.{Outcome}
use Rattle.px_verify_rounds.specs.Table.{Table}
use Rattle.px_verify_rounds.specs.declared.typing.Given.{Given}
use Rattle.px_verify_rounds.specs.declared.typing.Given.TheVariants as givens
use Rattle.px_verify_rounds.specs.declared.typing.Typing.{Typing}

-- the table that the entries are
abbrev pub table_of : Typing → Table
table_of typing = map (kinds_in typing.stacks) typing.entries.items

-- the stacks of all entries are there
abbrev pub IsValid : Typing → Type 0
IsValid typing = AllByRecursion (IsStackIn typing.stacks) typing.entries.items

-- what an instruction gave, read off the cells that stand behind it
abbrev pub GivesAs : List Cell → Given → Option Outcome → Type 0
GivesAs cells givens.Nothing outcome = outcome ≡ None
GivesAs cells (givens.Fault kind) outcome = outcome ≡ Some (Err kind)
GivesAs cells (givens.Stack stack) outcome = (outcome ≡ Some (Ok (kinds_of cells stack))) × IsStack cells stack
