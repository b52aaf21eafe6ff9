-- Methods that differ in nothing but their names, and where they are static, in their owners.
use Rattle.std.specs.Prelude.{◌≡◌, ℕ, ◌≤◌, false, List, Some, length, slice_get}
use Rattle.px_program.specs.declared.program.Method.{Method}

-- all that a check of types or a run looks at is one in both
pub record AreAlike (one other : Method) : Type 0 where
  pub is_static : one.is_static ≡ other.is_static
  pub owner : one.is_static ≡ false → one.owner ≡ other.owner
  pub params : one.params ≡ other.params
  pub ret : one.ret ≡ other.ret
  pub locals : one.locals ≡ other.locals
  pub max_stack : one.max_stack ≡ other.max_stack
  pub code : one.code ≡ other.code
  pub clauses : one.clauses ≡ other.clauses

-- a method under another name, and of another owner
abbrev pub renamed : Method → List ℕ → ℕ → Method
renamed method name owner = record { name = name; owner = owner; is_static = method.is_static; params = method.params; ret = method.ret; locals = method.locals; max_stack = method.max_stack; code = method.code; clauses = method.clauses }

-- a number, at most the other one, of a method that is alike; that of the first method is its own
pub record IsFirst (methods : List Method) (firsts : List ℕ) (number first : ℕ) : Type 0 where
  pub earlier : first ≤ number
  pub itself : slice_get firsts first ≡ Some first
  pub alike : (one other : Method) → slice_get methods first ≡ Some one → slice_get methods number ≡ Some other → AreAlike one other

pub record AreFirsts (methods : List Method) (firsts : List ℕ) : Type 0 where
  pub count : length firsts ≡ length methods
  pub each : (number first : ℕ) → slice_get firsts number ≡ Some first → IsFirst methods firsts number first
