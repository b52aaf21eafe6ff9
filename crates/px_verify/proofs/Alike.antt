-- Of two methods that are alike either both are typed or none is.
use Rattle.std.proofs.Common.{◌≡◌, ℕ, zero, suc, ◌<◌, length, arith, Bool, true, false, ◌==◌, ◌&&◌, ◌||◌, if◌then◌else◌, List, [], ◌∷◌, Option, Some, None, refl, ap, subst, sym, ◌∙◌}
use Rattle.std.specs.Prelude.{get_or, slice_get}
use Rattle.std.proofs.lemmas.Option.{slice_get-get_or, slice_get_within}
use Rattle.std.specs.List.{list_any}
use Rattle.px_program.specs.Alike.{AreAlike}
use Rattle.px_program.specs.Formed.{all_params, method_at}
use Rattle.px_program.specs.declared.instr.Code.{Code}
use Rattle.px_program.specs.declared.instr.Code.TheVariants as codes
use Rattle.px_program.specs.declared.instr.Instr.{Instr}
use Rattle.px_program.specs.declared.instr.Move.{Move}
use Rattle.px_program.specs.declared.instr.Move.TheVariants as moves
use Rattle.px_program.specs.declared.program.Clause.{Clause}
use Rattle.px_program.specs.declared.program.Method.{Method}
use Rattle.px_program.specs.declared.program.Place.{Place}
use Rattle.px_program.specs.declared.program.Place.TheVariants.{Ref}
use Rattle.px_program.specs.declared.program.Program.{Program}
use Rattle.px_program.proofs.Types.{each-weaken}
use Rattle.px_verify_kinds.specs.declared.kind.Kind.{Kind}
use Rattle.px_verify_flow.specs.Flow.{checked, is_outside, passed}
use Rattle.px_verify_flow.specs.Leaving.{successors}
use Rattle.px_verify_flow.specs.Outcome.{and_then}
use Rattle.px_verify_flow.specs.Rows.{effect, load_row, move_row, store_row}
use Rattle.px_verify_rounds.specs.Table.{IsQuiet, Table, begun, clashes, flow_on, give_outcome, one, outcome_at, round, rounds, stack_at, starts_of, sweep}
use Rattle.px_verify.specs.Judged.{AreTypedBelow}
use Rattle.px_verify.specs.Verdict.{IsTypedMethod, fault_at, fault_in, first_fault, gives_clash, is_bad_merge, or_later, outcome_clashes}

abbrev method : List ℕ → ℕ → Bool → List Place → Option Place → List Place → ℕ → List Instr → List Clause → Method
method name owner is_static params ret locals max_stack code clauses = record { name = name; owner = owner; is_static = is_static; params = params; ret = ret; locals = locals; max_stack = max_stack; code = code; clauses = clauses }

-- two methods that differ in their names and owners, and have the same parameters with their receivers
module _ (program : Program) (name another : List ℕ) (owner other : ℕ) (is_static : Bool) (params : List Place) (ret : Option Place) (locals : List Place) (max_stack : ℕ) (code : List Instr) (clauses : List Clause)
    (same : all_params (method name owner is_static params ret locals max_stack code clauses) ≡ all_params (method another other is_static params ret locals max_stack code clauses)) where
  abbrev one_of : Method
  one_of = method name owner is_static params ret locals max_stack code clauses

  abbrev other_of : Method
  other_of = method another other is_static params ret locals max_stack code clauses

  move_same : (move : Move) (stack : List Kind) → move_row program.types one_of move stack ≡ move_row program.types other_of move stack
  move_same (moves.Argument number) stack = ap (λ ps. load_row (slice_get ps number) stack) same
  move_same (moves.SetArgument number) stack = ap (λ ps. store_row program.types (slice_get ps number) stack) same
  move_same _ stack = refl

  effect_same : (code : Code) (stack : List Kind) → effect program one_of code stack ≡ effect program other_of code stack
  effect_same (codes.Move move) stack = move_same move stack
  effect_same _ stack = refl

  checked_same : (outside : Bool) (i : Instr) (stack : List Kind) → checked outside program one_of i stack ≡ checked outside program other_of i stack
  checked_same true i stack = refl
  checked_same false i stack = ap (λ o. and_then o (passed program one_of i stack)) (effect_same i.code stack)

  on_same : (i : Instr) (o : Option (List Kind)) → flow_on program one_of i o ≡ flow_on program other_of i o
  on_same i None = refl
  on_same i (Some stack) = ap Some (checked_same (is_outside i.code) i stack)

  outcome_same : (table : Table) (i : Instr) → outcome_at program one_of table i ≡ outcome_at program other_of table i
  outcome_same table i = on_same i (stack_at table i.offset)

  gives_same : (table : Table) (i : Instr) → one program one_of table i ≡ one program other_of table i
  gives_same table i = ap (give_outcome program.types table (successors i)) (outcome_same table i)

  sweep_same : (table : Table) (instrs : List Instr) → sweep program one_of table instrs ≡ sweep program other_of table instrs
  sweep_same table [] = refl
  sweep_same table (i ∷ more) = sweep_same (one program one_of table i) more ∙ ap (λ t. sweep program other_of t more) (gives_same table i)

  rounds_same : (count : ℕ) (table : Table) → rounds program one_of count table ≡ rounds program other_of count table
  rounds_same zero table = refl
  rounds_same (suc count) table = rounds_same count (round program one_of table) ∙ ap (rounds program other_of count) (sweep_same table code)

  quiet_same : (table : Table) (i : Instr) → IsQuiet program one_of table i → IsQuiet program other_of table i
  quiet_same table i quiet = λ given is. quiet given (outcome_same table i ∙ is)

  any_clash_same : (table : Table) (at : ℕ) (instrs : List Instr) → list_any (gives_clash program one_of table at) instrs ≡ list_any (gives_clash program other_of table at) instrs
  any_clash_same table at [] = refl
  any_clash_same table at (i ∷ more) =
      ap (λ b. b || list_any (gives_clash program one_of table at) more) (ap (outcome_clashes program.types table at (successors i)) (outcome_same table i))
      ∙ ap (λ b. gives_clash program other_of table at i || b) (any_clash_same table at more)

  merge_same : (table : Table) (at : ℕ) → is_bad_merge program one_of table at ≡ is_bad_merge program other_of table at
  merge_same table at = ap (λ b. list_any (λ (start : ℕ × List Kind). (start.0 == at) && clashes program.types table at start.1) (starts_of one_of) || b) (any_clash_same table at code)

  fault_same : (table : Table) (i : Instr) → fault_at program one_of table i ≡ fault_at program other_of table i
  fault_same table i = ap (λ b. fault_in b (outcome_at program one_of table i)) (merge_same table i.offset) ∙ ap (fault_in (is_bad_merge program other_of table i.offset)) (outcome_same table i)

  first_same : (table : Table) (instrs : List Instr) → first_fault program one_of table instrs ≡ first_fault program other_of table instrs
  first_same table [] = refl
  first_same table (i ∷ more) = ap (λ fault. or_later i fault (first_fault program one_of table more)) (fault_same table i) ∙ ap (or_later i (fault_at program other_of table i)) (first_same table more)

  renamed : IsTypedMethod program one_of → IsTypedMethod program other_of
  renamed typed = record {
    table = typed.table;
    is_table = record {
      count = typed.is_table.count;
      reached = sym (rounds_same typed.is_table.count (begun program one_of)) ∙ typed.is_table.reached;
      quiet = each-weaken (IsQuiet program one_of typed.table) (IsQuiet program other_of typed.table) (quiet_same typed.table) code typed.is_table.quiet;
    };
    faultless = sym (first_same typed.table code) ∙ typed.faultless;
  }

receiver_same : (is_static : Bool) (owner other : ℕ) (params : List Place) → (is_static ≡ false → owner ≡ other) → (if is_static then params else Ref owner ∷ params) ≡ (if is_static then params else Ref other ∷ params)
receiver_same true owner other params same = refl
receiver_same false owner other params same = ap (λ o. Ref o ∷ params) (same refl)

pub typed_like : (program : Program) (one other : Method) → AreAlike one other → IsTypedMethod program one → IsTypedMethod program other
typed_like program one other alike typed =
    let a = subst (λ it. IsTypedMethod program (method one.name one.owner it one.params one.ret one.locals one.max_stack one.code one.clauses)) alike.is_static typed in
    let b = subst (λ it. IsTypedMethod program (method one.name one.owner other.is_static it one.ret one.locals one.max_stack one.code one.clauses)) alike.params a in
    let c = subst (λ it. IsTypedMethod program (method one.name one.owner other.is_static other.params it one.locals one.max_stack one.code one.clauses)) alike.ret b in
    let d = subst (λ it. IsTypedMethod program (method one.name one.owner other.is_static other.params other.ret it one.max_stack one.code one.clauses)) alike.locals c in
    let e = subst (λ it. IsTypedMethod program (method one.name one.owner other.is_static other.params other.ret other.locals it one.code one.clauses)) alike.max_stack d in
    let f = subst (λ it. IsTypedMethod program (method one.name one.owner other.is_static other.params other.ret other.locals other.max_stack it one.clauses)) alike.code e in
    let g = subst (λ it. IsTypedMethod program (method one.name one.owner other.is_static other.params other.ret other.locals other.max_stack other.code it)) alike.clauses f in
    renamed program one.name other.name one.owner other.owner other.is_static other.params other.ret other.locals other.max_stack other.code other.clauses
    (receiver_same other.is_static one.owner other.owner other.params (λ instance. alike.owner (alike.is_static ∙ instance))) g

-- a method is typed where an earlier one that it is like is
pub typed_as_first : (program : Program) (number first : ℕ) (it : Method) → AreTypedBelow program number → first < number → method_at program number ≡ Some it
    → ((one other : Method) → slice_get program.methods first ≡ Some one → slice_get program.methods number ≡ Some other → AreAlike one other) → IsTypedMethod program it
typed_as_first program number first it below earlier at alike =
    let within : number < length program.methods = slice_get_within program.methods number it at in
    let there : first < length program.methods = omega (arith, earlier, within) in
    let first_at : slice_get program.methods first ≡ Some (get_or program.methods first it) = slice_get-get_or program.methods first it there in
    typed_like program (get_or program.methods first it) it (alike (get_or program.methods first it) it first_at at) (below first (get_or program.methods first it) earlier first_at)
