-- Which stacks clash, and the least offset where one does.
use Rattle.std.proofs.Common.{◌≡◌, ◌≢◌, ℕ, ◌<◌, ◌≤◌, Bool, true, false, ◌==◌, ◌&&◌, ◌||◌, nat_lt, if◌then◌else◌, List, [], ◌∷◌, ◌++◌, Option, Some, None, refl, ap, sym, ◌∙◌, subst, arith, eq-eqb, eqb-true}
use Rattle.std.specs.Prelude.{Ok, Err}
use Rattle.std.specs.List.{flat_map, list_any}
use Rattle.px_program.specs.declared.instr.Instr.{Instr}
use Rattle.px_program.specs.declared.program.Clause.{Clause}
use Rattle.px_program.specs.declared.program.Method.{Method}
use Rattle.px_program.specs.declared.program.Program.{Program}
use Rattle.px_program.specs.declared.program.TypeInfo.{TypeInfo}
use Rattle.px_verify_kinds.specs.declared.kind.Kind.{Kind}
use Rattle.px_verify_flow.specs.Leaving.{successors}
use Rattle.px_verify_flow.specs.Outcome.{Outcome}
use Rattle.px_verify_rounds.specs.Table.{Table, clashes, clashes_with, outcome_at, stack_at, start_of, starts_of}
use Rattle.px_verify.specs.Clashes.{IsLeast, earlier, least_clash, noted, noted_all, noted_by, noted_clauses, noted_outcome, noted_starts}
use Rattle.px_verify.specs.Verdict.{gives_clash, is_bad_merge, leads_to, outcome_clashes}
use Rattle.px_verify.proofs.Finding.{by_bool, by_option}

-- THE LEAST

least_alike : (least : Option ℕ) (test other : ℕ → Bool) → ((at : ℕ) → test at ≡ other at) → IsLeast least test → IsLeast least other
least_alike None test other same is = λ at. sym (same at) ∙ is at
least_alike (Some least) test other same is = (sym (same least) ∙ is.0, λ at less. sym (same at) ∙ is.1 at less)

or_none : (a b : Bool) → b ≡ false → (a || b) ≡ a
or_none true b none = refl
or_none false b none = none

or_some : (a b : Bool) → a ≡ true → (a || b) ≡ true
or_some true b is = refl
or_some false b is = absurd (cc)

or_other : (a b : Bool) → b ≡ true → (a || b) ≡ true
or_other true b is = refl
or_other false b is = is

or_neither : (a b : Bool) → a ≡ false → b ≡ false → (a || b) ≡ false
or_neither true b none nor = absurd (cc)
or_neither false b none nor = nor

-- a test that one place alone may pass
module _ (hit test : ℕ → Bool) (place : ℕ) (misses : (at : ℕ) → at ≢ place → hit at ≡ false) where
  misses_all : hit place ≡ false → (at : ℕ) → hit at ≡ false
  misses_all free at = by_bool (λ b. (at == place) ≡ b → hit at ≡ false) (at == place) (λ _ same. subst (λ (o : ℕ). hit o ≡ false) (sym (eqb-true at place same)) free) (λ _ other. misses at (grind (arith, other))) refl

  earlier_least : (least : Option ℕ) → hit place ≡ true → IsLeast least test → IsLeast (earlier least place) (λ at. test at || hit at)
  earlier_least None hits is = (or_other (test place) (hit place) hits, λ at less. or_neither (test at) (hit at) (is at) (misses at (omega arith)))
  earlier_least (Some least) hits is =
      by_bool (λ b. nat_lt place least ≡ b → IsLeast (Some (if b then place else least)) (λ at. test at || hit at)) (nat_lt place least)
      (λ _ less. let lower : place < least = grind (arith, less) in (or_other (test place) (hit place) hits, λ at below. or_neither (test at) (hit at) (is.1 at (omega arith)) (misses at (omega arith))))
      (λ _ more. let upper : least ≤ place = grind (arith, more) in (or_some (test least) (hit least) is.0, λ at below. or_neither (test at) (hit at) (is.1 at below) (misses at (omega arith)))) refl

  pub noted_least : (least : Option ℕ) (clash : Bool) → hit place ≡ clash → IsLeast least test → IsLeast (noted clash least place) (λ at. test at || hit at)
  noted_least least true hits is = earlier_least least hits is
  noted_least least false free is = least_alike least test (λ at. test at || hit at) (λ at. sym (or_none (test at) (hit at) (misses_all free at))) is

and_itself : (a : ℕ) (b : Bool) → ((a == a) && b) ≡ b
and_itself a b = let same : (a == a) ≡ true = eq-eqb a a refl in rw same refl

and_other : (a at : ℕ) (b : Bool) → at ≢ a → ((a == at) && b) ≡ false
and_other a at b other = by_bool (λ c. (a == at) ≡ c → (c && b) ≡ false) (a == at) (λ _ same. absurd (other (sym (eqb-true a at same)))) (λ _ _. refl) refl

or_again : (a b c : Bool) → ((a || b) || c) ≡ (a || (b || c))
or_again true b c = refl
or_again false b c = refl

-- STARTS

abbrev pub start_hits : List TypeInfo → Table → ℕ → ℕ × List Kind → Bool
start_hits types table at start = (start.0 == at) && clashes types table at start.1

starts_least : (types : List TypeInfo) (table : Table) (least : Option ℕ) (test : ℕ → Bool) (starts : List (ℕ × List Kind)) → IsLeast least test
    → IsLeast (noted_starts types table least starts) (λ at. test at || list_any (start_hits types table at) starts)
starts_least types table least test [] is = least_alike least test (λ at. test at || false) (λ at. sym (or_none (test at) false refl)) is
starts_least types table least test (start ∷ more) is =
    least_alike (noted_starts types table (noted (clashes types table start.0 start.1) least start.0) more)
    (λ at. (test at || start_hits types table at start) || list_any (start_hits types table at) more) (λ at. test at || (start_hits types table at start || list_any (start_hits types table at) more))
    (λ at. or_again (test at) (start_hits types table at start) (list_any (start_hits types table at) more))
    (starts_least types table (noted (clashes types table start.0 start.1) least start.0) (λ at. test at || start_hits types table at start) more
    (noted_least (λ at. start_hits types table at start) test start.0 (λ at other. and_other start.0 at (clashes types table at start.1) other) least (clashes types table start.0 start.1)
    (and_itself start.0 (clashes types table start.0 start.1)) is))

starts_append : (types : List TypeInfo) (table : Table) (least : Option ℕ) (starts more : List (ℕ × List Kind)) → noted_starts types table least (starts ++ more) ≡ noted_starts types table (noted_starts types table least starts) more
starts_append types table least [] more = refl
starts_append types table least (start ∷ starts) more = starts_append types table (noted (clashes types table start.0 start.1) least start.0) starts more

clauses_are : (types : List TypeInfo) (table : Table) (least : Option ℕ) (clauses : List Clause) → noted_clauses types table least clauses ≡ noted_starts types table least (flat_map start_of clauses)
clauses_are types table least [] = refl
clauses_are types table least (clause ∷ more) =
    clauses_are types table (noted_starts types table least (start_of clause)) more ∙ sym (starts_append types table least (start_of clause) (flat_map start_of more))

-- INSTRUCTIONS

or_and : (a b l c : Bool) → ((a || (b && c)) || (l && c)) ≡ (a || ((b || l) && c))
or_and true b l c = refl
or_and false true true true = refl
or_and false true true false = refl
or_and false true false true = refl
or_and false true false false = refl
or_and false false l c = refl

all_least : (types : List TypeInfo) (table : Table) (given : List Kind) (least : Option ℕ) (test : ℕ → Bool) (to : List ℕ) → IsLeast least test
    → IsLeast (noted_all types table given least to) (λ at. test at || (leads_to at to && clashes types table at given))
all_least types table given least test [] is = least_alike least test (λ at. test at || false) (λ at. sym (or_none (test at) false refl)) is
all_least types table given least test (place ∷ more) is =
    least_alike (noted_all types table given (noted (clashes types table place given) least place) more)
    (λ at. (test at || ((place == at) && clashes types table at given)) || (leads_to at more && clashes types table at given)) (λ at. test at || (((place == at) || leads_to at more) && clashes types table at given))
    (λ at. or_and (test at) (place == at) (leads_to at more) (clashes types table at given))
    (all_least types table given (noted (clashes types table place given) least place) (λ at. test at || ((place == at) && clashes types table at given)) more
    (noted_least (λ at. (place == at) && clashes types table at given) test place (λ at other. and_other place at (clashes types table at given) other) least (clashes types table place given)
    (and_itself place (clashes types table place given)) is))

outcome_least : (types : List TypeInfo) (table : Table) (to : List ℕ) (least : Option ℕ) (test : ℕ → Bool) (o : Option Outcome) → IsLeast least test
    → IsLeast (noted_outcome types table to least o) (λ at. test at || outcome_clashes types table at to o)
outcome_least types table to least test None is = least_alike least test (λ at. test at || false) (λ at. sym (or_none (test at) false refl)) is
outcome_least types table to least test (Some (Err fault)) is = least_alike least test (λ at. test at || false) (λ at. sym (or_none (test at) false refl)) is
outcome_least types table to least test (Some (Ok given)) is = all_least types table given least test to is

code_least : (program : Program) (method : Method) (table : Table) (least : Option ℕ) (test : ℕ → Bool) (code : List Instr) → IsLeast least test
    → IsLeast (noted_by program method table least code) (λ at. test at || list_any (gives_clash program method table at) code)
code_least program method table least test [] is = least_alike least test (λ at. test at || false) (λ at. sym (or_none (test at) false refl)) is
code_least program method table least test (i ∷ more) is =
    least_alike (noted_by program method table (noted_outcome program.types table (successors i) least (outcome_at program method table i)) more)
    (λ at. (test at || gives_clash program method table at i) || list_any (gives_clash program method table at) more) (λ at. test at || (gives_clash program method table at i || list_any (gives_clash program method table at) more))
    (λ at. or_again (test at) (gives_clash program method table at i) (list_any (gives_clash program method table at) more))
    (code_least program method table (noted_outcome program.types table (successors i) least (outcome_at program method table i)) (λ at. test at || gives_clash program method table at i) more
    (outcome_least program.types table (successors i) least test (outcome_at program method table i) is))

-- ALL OF THEM

-- it is the least offset with a bad merge
pub least_clash_is : (program : Program) (method : Method) (table : Table) → IsLeast (least_clash program method table) (is_bad_merge program method table)
least_clash_is program method table =
    let starts = starts_least program.types table None (λ at. false) (starts_of method) (λ at. refl) in
    let clauses = subst (λ (least : Option ℕ). IsLeast least (λ at. list_any (start_hits program.types table at) (starts_of method))) (sym (clauses_are program.types table (noted (clashes program.types table 0 []) None 0) method.clauses)) starts in
    code_least program method table (noted_clauses program.types table (noted (clashes program.types table 0 []) None 0) method.clauses) (λ at. list_any (start_hits program.types table at) (starts_of method)) method.code clauses

any_none : {X : Type 0} (test : X → Bool) → ((x : X) → test x ≡ false) → (xs : List X) → list_any test xs ≡ false
any_none test none [] = refl
any_none test none (x ∷ xs) = or_neither (test x) (list_any test xs) (none x) (any_none test none xs)

and_none : (a b : Bool) → b ≡ false → (a && b) ≡ false
and_none true b none = none
and_none false b none = refl

free_alone : (types : List TypeInfo) (table : Table) (at : ℕ) → stack_at table at ≡ None → (given : List Kind) → clashes types table at given ≡ false
free_alone types table at none given = ap (clashes_with types given) none

outcome_free : (types : List TypeInfo) (table : Table) (at : ℕ) → stack_at table at ≡ None → (to : List ℕ) (o : Option Outcome) → outcome_clashes types table at to o ≡ false
outcome_free types table at none to None = refl
outcome_free types table at none to (Some (Err fault)) = refl
outcome_free types table at none to (Some (Ok given)) = and_none (leads_to at to) (clashes types table at given) (free_alone types table at none given)

-- a stack stands where there is a bad merge
pub bad_stands : (program : Program) (method : Method) (table : Table) (at : ℕ) → is_bad_merge program method table at ≡ true → (stack : List Kind) × (stack_at table at ≡ Some stack)
bad_stands program method table at bad =
    by_option (λ o. stack_at table at ≡ o → (stack : List Kind) × (o ≡ Some stack)) (stack_at table at)
    (λ _ none.
    let free = or_neither (list_any (start_hits program.types table at) (starts_of method)) (list_any (gives_clash program method table at) method.code)
    (any_none (start_hits program.types table at) (λ start. and_none (start.0 == at) (clashes program.types table at start.1) (free_alone program.types table at none start.1)) (starts_of method))
    (any_none (gives_clash program method table at) (λ i. outcome_free program.types table at none (successors i) (outcome_at program method table i)) method.code) in
    let clash : true ≡ false = sym bad ∙ free in
    absurd (cc))
    (λ stack _ _. (stack, refl)) refl
