-- What the parts of the writer promise each other.
use Rattle.std.specs.Prelude.{◌<◌, ◌≤◌, ◌^◌}
use Rattle.px_code.specs.Body.{end_of}
use Rattle.px_code.specs.declared.body.RawClause.{RawClause}
use Rattle.px_code.specs.declared.body.Body.{Body}

-- the two ranges of a clause end behind their starts
pub record HasRanges (clause : RawClause) : Type 0 where
  pub guarded : clause.from ≤ clause.to
  pub handler : clause.start ≤ clause.stop

-- each number of a clause fits four bytes
pub record IsNarrow (clause : RawClause) : Type 0 where
  pub flags : clause.flags < 2 ^ 32
  pub from : clause.from < 2 ^ 32
  pub to : clause.to < 2 ^ 32
  pub start : clause.start < 2 ^ 32
  pub stop : clause.stop < 2 ^ 32
  pub class : clause.class < 2 ^ 32

-- the numbers of a header fit their bytes
pub record FitsHeader (body : Body) : Type 0 where
  pub max_stack : body.max_stack < 2 ^ 16
  pub locals_token : body.locals_token < 2 ^ 32
  pub end : end_of body.code < 2 ^ 32
