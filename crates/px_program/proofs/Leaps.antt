-- How deep types lie under their bases, and where they leap to.
use Rattle.std.proofs.Common.{◌≡◌, ◌≢◌, ◌⊎◌, inl, inr, ℕ, zero, suc, ◌+◌, ◌<◌, ◌≤◌, ◌==◌, Bool, true, false, if◌then◌else◌, List, [], ◌∷◌, ◌++◌, min, Option, Some, None, refl, sym, ap, ◌∙◌, subst, arith, length}
use Rattle.std.specs.Prelude.{slice_get, slice_set}
use Rattle.std.proofs.lemmas.Bool.Decides.{eqb_tells}
use Rattle.std.proofs.lemmas.List.{length-set}
use Rattle.std.proofs.lemmas.Option.{slice_get_within}
use Rattle.px_program.specs.Bases.{AreBothOn, AreSteps, AreStepsSoFar, HasBases, IsNearestBase, IsSettled, IsStep, leap_of, no_step, step_of, step_on, step_or}
use Rattle.px_program.specs.Lines.{DerivesFrom, HasEnd, IsBehind, IsChain, IsKindOf, base_in, base_of}
use Rattle.px_program.specs.declared.program.TypeInfo.{TypeInfo}
use Rattle.px_program.specs.declared.type_table.Step.{Step}
use Rattle.px_program.proofs.Fitting.{kind_ends, kind_of_itself, kind_on, kind_through}
use Rattle.px_program.proofs.Likeness.{length_pushed, pushed_cases}
use Rattle.px_program.proofs.Walks.{chain_is_one, steps_fall, steps_left}

-- WAYS

-- what derives from another type is a kind of it
pub derived_kind : (types : List TypeInfo) (type other : ℕ) → DerivesFrom types type other → IsKindOf types type other
derived_kind types type other derives = record { steps = suc derives.steps; way = derives.way }

pub derived_base : (types : List TypeInfo) (type base : ℕ) → base_of types type ≡ Some base → DerivesFrom types type base
derived_base types type base is = record { steps = 0; way = (base, is, refl) }

-- over a base
pub derived_over : (types : List TypeInfo) (type base other : ℕ) → base_of types type ≡ Some base → IsKindOf types base other → DerivesFrom types type other
derived_over types type base other is kind = record { steps = kind.steps; way = (base, is, kind.way) }

-- COUNTS

-- a type has so many bases and no other number of them
pub count_is_one : (types : List TypeInfo) (type one other : ℕ) → HasBases types type one → HasBases types type other → one ≡ other
count_is_one types type one other first second =
    let same : first.behind ≡ second.behind = chain_is_one (base_of types) type first.behind second.behind first.chain second.chain in
    sym first.count_is ∙ ap length same ∙ second.count_is

pub none_behind : (types : List TypeInfo) (type : ℕ) → base_of types type ≡ None → HasBases types type 0
none_behind types type is = record { behind = []; chain = is; count_is = refl }

pub one_more : (types : List TypeInfo) (type base count : ℕ) → base_of types type ≡ Some base → HasBases types base count → HasBases types type (suc count)
one_more types type base count is has = record { behind = base ∷ has.behind; chain = (is, has.chain); count_is = ap suc has.count_is }

has_next : (types : List TypeInfo) (type base : ℕ) (behind : List ℕ) (count : ℕ) → base_of types type ≡ Some base → IsChain (base_of types) type behind → length behind ≡ count → (fewer : ℕ) × (count ≡ suc fewer) × HasBases types base fewer
has_next types type base [] count is chain size = let none : base_of types type ≡ None = chain in absurd (cc)
has_next types type base (next ∷ rest) count is chain size =
    let goes : base_of types type ≡ Some next = chain.0 in
    let same : next ≡ base = cc in
    (length rest, sym size, record { behind = rest; chain = subst (λ n. IsChain (base_of types) n rest) same chain.1; count_is = refl })

-- where the bases end, there are so many
pub ended_count : (types : List TypeInfo) (type : ℕ) → HasEnd (base_of types) type → (count : ℕ) × HasBases types type count
ended_count types type ends = (length ends.behind, record { behind = ends.behind; chain = ends.chain; count_is = refl })

-- its base has one less
pub one_less : (types : List TypeInfo) (type base count : ℕ) → base_of types type ≡ Some base → HasBases types type count → (fewer : ℕ) × (count ≡ suc fewer) × HasBases types base fewer
one_less types type base count is has = has_next types type base has.behind count is has.chain has.count_is

-- a base so many steps behind has so many less
pub count_behind : (types : List TypeInfo) (steps type other count : ℕ) → IsBehind (base_of types) steps type other → HasBases types type count → (fewer : ℕ) × (count ≡ steps + fewer) × HasBases types other fewer
count_behind types zero type other count way has = (count, omega arith, subst (λ t. HasBases types t count) way has)
count_behind types (suc steps) type other count way has =
    let less = one_less types type way.0 count way.1 has in
    let rest = count_behind types steps way.0 other less.0 way.2 less.2 in
    (rest.0, omega (arith, less.1, rest.1), rest.2)

-- so many steps lead to one type
pub behind_is_one : (types : List TypeInfo) (steps type one other : ℕ) → IsBehind (base_of types) steps type one → IsBehind (base_of types) steps type other → one ≡ other
behind_is_one types zero type one other first second = sym first ∙ second
behind_is_one types (suc steps) type one other first second =
    let goes : base_of types type ≡ Some first.0 = first.1 in
    let goes_too : base_of types type ≡ Some second.0 = second.1 in
    let same : first.0 ≡ second.0 = cc in
    behind_is_one types steps second.0 one other (subst (λ from. IsBehind (base_of types) steps from one) same first.2) second.2

-- a type has one base of each depth
pub base_is_one : (types : List TypeInfo) (type one other all count : ℕ) → HasBases types type all → IsKindOf types type one → IsKindOf types type other → HasBases types one count → HasBases types other count → one ≡ other
base_is_one types type one other all count has first second of_one of_other =
    let near = count_behind types first.steps type one all first.way has in
    let far = count_behind types second.steps type other all second.way has in
    let here : near.0 ≡ count = count_is_one types one near.0 count near.2 of_one in
    let there : far.0 ≡ count = count_is_one types other far.0 count far.2 of_other in
    let steps : first.steps ≡ second.steps = omega (arith, near.1, far.1, here, there) in
    behind_is_one types second.steps type one other (subst (λ n. IsBehind (base_of types) n type one) steps first.way) second.way

-- of two bases the further is a base of the nearer
between_by : (types : List TypeInfo) (near far type one other : ℕ) → near ≤ far → IsBehind (base_of types) near type one → IsBehind (base_of types) far type other → IsKindOf types one other
between_by types zero far type one other less first second = subst (λ from. IsKindOf types from other) first (record { steps = far; way = second })
between_by types (suc near) zero type one other less first second = absurd (omega arith)
between_by types (suc near) (suc far) type one other less first second =
    let goes : base_of types type ≡ Some first.0 = first.1 in
    let goes_too : base_of types type ≡ Some second.0 = second.1 in
    let same : first.0 ≡ second.0 = cc in
    between_by types near far second.0 one other (omega arith) (subst (λ from. IsBehind (base_of types) near from one) same first.2) second.2

pub base_between : (types : List TypeInfo) (type one other all more fewer : ℕ) → HasBases types type all → IsKindOf types type one → IsKindOf types type other → HasBases types one more → HasBases types other fewer → fewer ≤ more → IsKindOf types one other
base_between types type one other all more fewer has first second of_one of_other less =
    let near = count_behind types first.steps type one all first.way has in
    let far = count_behind types second.steps type other all second.way has in
    let here : near.0 ≡ more = count_is_one types one near.0 more near.2 of_one in
    let there : far.0 ≡ fewer = count_is_one types other far.0 fewer far.2 of_other in
    between_by types first.steps second.steps type one other (omega (arith, near.1, far.1, here, there, less)) first.way second.way

-- a base has no more bases than the type
pub count_falls : (types : List TypeInfo) (type other all count : ℕ) → HasBases types type all → IsKindOf types type other → HasBases types other count → count ≤ all
count_falls types type other all count has kind of_other =
    let rest = count_behind types kind.steps type other all kind.way has in
    let same : rest.0 ≡ count = count_is_one types other rest.0 count rest.2 of_other in
    omega (arith, rest.1, same)

-- one that derives has more
pub count_derived : (types : List TypeInfo) (type other all count : ℕ) → HasBases types type all → DerivesFrom types type other → HasBases types other count → count < all
count_derived types type other all count has derives of_other =
    let rest = count_behind types (suc derives.steps) type other all derives.way has in
    let same : rest.0 ≡ count = count_is_one types other rest.0 count rest.2 of_other in
    omega (arith, rest.1, same)

-- STEPS THAT ARE KNOWN

by_option : {X : Type 0} (P : Option X → Type 0) (o : Option X) → (o ≡ None → P None) → ((x : X) → o ≡ Some x → P (Some x)) → P o
by_option P None where_none where_some = where_none refl
by_option P (Some x) where_none where_some = where_some x refl

pub baseless_step : (types : List TypeInfo) (type : ℕ) → base_of types type ≡ None → IsStep types type (no_step type)
baseless_step types type is = record { depth = none_behind types type is; jump = inl (is, refl) }

-- where a type leaps to is the type or one of its bases
pub leap_kind : (types : List TypeInfo) (type : ℕ) (step : Step) → IsStep types type step → IsKindOf types type step.jump
leap_kind types type step is = by is.jump
  where
    by : ((base_of types type ≡ None) × (step.jump ≡ type)) ⊎ DerivesFrom types type step.jump → IsKindOf types type step.jump
    by (inl itself) = subst (IsKindOf types type) (sym itself.1) (kind_of_itself types type)
    by (inr derives) = derived_kind types type step.jump derives

leap_kind_so_far : (types : List TypeInfo) (steps : List Step) → AreStepsSoFar types steps → (type : ℕ) → IsKindOf types type (step_of steps type).jump
leap_kind_so_far types steps so_far type = by (so_far type)
  where
    by : (step_of steps type ≡ no_step type) ⊎ IsStep types type (step_of steps type) → IsKindOf types type (step_of steps type).jump
    by (inl none) = subst (IsKindOf types type) (sym (ap (λ (s : Step). s.jump) none)) (kind_of_itself types type)
    by (inr step) = leap_kind types type (step_of steps type) step

-- the step on a base is right
pub step_on_right : (types : List TypeInfo) (steps : List Step) (type base : ℕ) → AreStepsSoFar types steps → base_of types type ≡ Some base → IsStep types base (step_of steps base) → IsStep types type (step_on steps base)
step_on_right types steps type base so_far is known = record { depth = subst (HasBases types type) next (one_more types type base (step_of steps base).depth is known.depth); jump = inr (by (leap_of steps base == leap_of steps (step_of steps base).jump)) }
  where
    next : suc (step_of steps base).depth ≡ (step_of steps base).depth + 1
    next = omega arith

    over : IsKindOf types base (step_of steps (step_of steps base).jump).jump
    over = kind_through types base (step_of steps base).jump (step_of steps (step_of steps base).jump).jump (leap_kind types base (step_of steps base) known) (leap_kind_so_far types steps so_far (step_of steps base).jump)

    by : (b : Bool) → DerivesFrom types type (if b then (step_of steps (step_of steps base).jump).jump else base)
    by true = derived_over types type base (step_of steps (step_of steps base).jump).jump is over
    by false = derived_base types type base is

-- LISTS OF STEPS

pub step_pushed : (steps : List Step) (number : ℕ) → length steps ≡ number → ((type : ℕ) → step_of steps type ≡ no_step type) → (type : ℕ) → step_of (steps ++ no_step number ∷ []) type ≡ no_step type
step_pushed steps number size none type =
    by_option (λ o. slice_get (steps ++ no_step number ∷ []) type ≡ o → step_or type o ≡ no_step type) (slice_get (steps ++ no_step number ∷ []) type)
    (λ _ _. refl)
    (λ step _ at. elim (pushed_cases steps (no_step number) type step at) [
      | inl there ↦ sym (ap (step_or type) there) ∙ none type
      | inr last ↦ sym last.1 ∙ ap no_step (sym size ∙ sym last.0)
    ])
    refl

pub count_pushed : (steps : List Step) (number : ℕ) → length steps ≡ number → length (steps ++ no_step number ∷ []) ≡ number + 1
count_pushed steps number size = length_pushed steps (no_step number) ∙ ap suc size ∙ omega arith

get_set : {X : Type 0} (xs : List X) (at : ℕ) (x : X) → at < length xs → slice_get (slice_set xs at x) at ≡ Some x
get_set [] at x within = absurd (omega arith)
get_set (y ∷ ys) zero x within = refl
get_set (y ∷ ys) (suc at) x within = get_set ys at x (omega arith)

get_set_other : {X : Type 0} (xs : List X) (at other : ℕ) (x : X) → other ≢ at → slice_get (slice_set xs at x) other ≡ slice_get xs other
get_set_other [] at other x apart = refl
get_set_other (y ∷ ys) zero zero x apart = absurd (apart refl)
get_set_other (y ∷ ys) zero (suc other) x apart = refl
get_set_other (y ∷ ys) (suc at) zero x apart = refl
get_set_other (y ∷ ys) (suc at) (suc other) x apart = get_set_other ys at other x (λ same. apart (ap suc same))

step_set : (steps : List Step) (at : ℕ) (step : Step) → at < length steps → step_of (slice_set steps at step) at ≡ step
step_set steps at step within = ap (step_or at) (get_set steps at step within)

step_kept : (steps : List Step) (at other : ℕ) (step : Step) → other ≢ at → step_of (slice_set steps at step) other ≡ step_of steps other
step_kept steps at other step apart = ap (step_or other) (get_set_other steps at other step apart)

pub first_settled : (types : List TypeInfo) (steps : List Step) (at : ℕ) → length steps ≡ length types → AreStepsSoFar types steps → IsStep types at (step_of steps at) → IsSettled types steps steps at
first_settled types steps at size so_far known = record { size = size; so_far = so_far; known = known; kept = λ type is. is }

pub settled_on : (types : List TypeInfo) (old steps : List Step) (at above : ℕ) → IsSettled types old steps at → above < length types → base_of types above ≡ Some at → IsSettled types old (slice_set steps above (step_on steps at)) above
settled_on types old steps at above settled within is =
    let step : IsStep types above (step_on steps at) = step_on_right types steps above at settled.so_far is settled.known in
    let there : above < length steps = omega (arith, within, settled.size) in
    let new : List Step = slice_set steps above (step_on steps at) in
    let here : IsStep types above (step_of new above) = subst (IsStep types above) (sym (step_set steps above (step_on steps at) there)) step in
    record {
      size = length-set steps above (step_on steps at) ∙ settled.size;
      so_far = λ type. elim (eqb_tells type above) [
        | inl same ↦ subst (λ t. (step_of new t ≡ no_step t) ⊎ IsStep types t (step_of new t)) (sym same.1) (inr here)
        | inr apart ↦ subst (λ s. (s ≡ no_step type) ⊎ IsStep types type s) (sym (step_kept steps above type (step_on steps at) apart.1)) (settled.so_far type)
      ];
      known = here;
      kept = λ type known. elim (eqb_tells type above) [
        | inl same ↦ subst (λ t. IsStep types t (step_of new t)) (sym same.1) here
        | inr apart ↦ subst (IsStep types type) (sym (step_kept steps above type (step_on steps at) apart.1)) (settled.kept type known)
      ];
    }

-- THE WAY UP

-- types from a first one up, each the base of the one before, and then the last
abbrev pub LeadsTo : List TypeInfo → ℕ → List ℕ → ℕ → Type 0
LeadsTo types from [] last = from ≡ last
LeadsTo types from (first ∷ rest) last = (from ≡ first) × ((base : ℕ) × (base_of types first ≡ Some base) × LeadsTo types base rest last)

pub leads_on : (types : List TypeInfo) (from : ℕ) (way : List ℕ) (last base : ℕ) → LeadsTo types from way last → base_of types last ≡ Some base → LeadsTo types from (way ++ last ∷ []) base
leads_on types from [] last base same is = (same, (base, is, refl))
leads_on types from (first ∷ rest) last base leads is = (leads.0, (leads.1.0, leads.1.1, leads_on types leads.1.0 rest last base leads.1.2 is))

pub leads_back : (types : List TypeInfo) (from : ℕ) (way : List ℕ) (above last : ℕ) → LeadsTo types from (way ++ above ∷ []) last → LeadsTo types from way above × (base_of types above ≡ Some last)
leads_back types from [] above last leads = (leads.0, leads.1.1 ∙ ap Some leads.1.2)
leads_back types from (first ∷ rest) above last leads =
    let later = leads_back types leads.1.0 rest above last leads.1.2 in
    ((leads.0, (leads.1.0, leads.1.1, later.0)), later.1)

within_types : (types : List TypeInfo) (type base : ℕ) → base_in (slice_get types type) ≡ Some base → type < length types
within_types [] type base is = absurd (cc)
within_types (info ∷ types) zero base is = omega arith
within_types (info ∷ types) (suc type) base is = let less : type < length types = within_types types type base is in omega arith

pub base_within : (types : List TypeInfo) (type base : ℕ) → base_of types type ≡ Some base → type < length types
base_within types type base is = within_types types type base is

pub walk_falls : (types : List TypeInfo) → ((type : ℕ) → HasEnd (base_of types) type) → (at base : ℕ) → base_of types at ≡ Some base → steps_left (base_of types) (suc (length types)) (Some base) < steps_left (base_of types) (suc (length types)) (Some at)
walk_falls types ends at base is = subst (λ next. steps_left (base_of types) (suc (length types)) next < steps_left (base_of types) (suc (length types)) (Some at)) is (steps_fall (base_of types) (length types) (base_within types) ends at)

-- a number past the list is no type
pub past_types : (types : List TypeInfo) (type : ℕ) → length types ≤ type → base_of types type ≡ None
past_types [] type past = refl
past_types (info ∷ types) zero past = absurd (omega arith)
past_types (info ∷ types) (suc type) past = past_types types type (omega arith)

past_steps : (steps : List Step) (type : ℕ) → length steps ≤ type → step_of steps type ≡ no_step type
past_steps [] type past = refl
past_steps (step ∷ steps) zero past = absurd (omega arith)
past_steps (step ∷ steps) (suc type) past = by_option (λ o. slice_get steps type ≡ o → step_or (suc type) o ≡ no_step (suc type)) (slice_get steps type) (λ _ _. refl) (λ it at _. absurd (let within : type < length steps = slice_get_within steps type it at in omega arith)) refl

-- all steps, where those of the types are known
pub all_known : (types : List TypeInfo) (steps : List Step) (count : ℕ) → count ≡ length types → length steps ≡ length types → ((type : ℕ) → type < count → IsStep types type (step_of steps type)) → AreSteps types steps
all_known types steps count all size known type = elim (below_or_past type (length types)) [
  | inl below ↦ known type (omega (arith, all, below))
  | inr past ↦ subst (IsStep types type) (sym (past_steps steps type (omega (arith, size, past)))) (baseless_step types type (past_types types type past))
]
  where
    below_or_past : (a b : ℕ) → (a < b) ⊎ (b ≤ a)
    below_or_past a zero = inr (omega arith)
    below_or_past zero (suc b) = inl (omega arith)
    below_or_past (suc a) (suc b) = elim (below_or_past a b) [
      | inl less ↦ inl (omega arith)
      | inr more ↦ inr (omega arith)
    ]

-- ALL STEPS

pub known_next : (types : List TypeInfo) (old new : List Step) (number : ℕ) → ((type : ℕ) → type < number → IsStep types type (step_of old type)) → ((type : ℕ) → IsStep types type (step_of old type) → IsStep types type (step_of new type)) → IsStep types number (step_of new number)
    → (type : ℕ) → type < number + 1 → IsStep types type (step_of new type)
known_next types old new number before kept here type less = elim (eqb_tells type number) [
  | inl same ↦ subst (λ t. IsStep types t (step_of new t)) (sym same.1) here
  | inr apart ↦ kept type (before type (omega (arith, less, apart.1)))
]

-- TOWARDS A BASE

-- where a type has more bases than a number, it has one
pub has_base : (types : List TypeInfo) (type depth count : ℕ) → HasBases types type count → depth < count → base_of types type ≡ None → ⊥
has_base types type depth count has less none =
    let zero_is : count ≡ 0 = count_is_one types type count 0 has (none_behind types type none) in omega (arith, zero_is, less)

pub deep_base : (types : List TypeInfo) (type base depth all : ℕ) → base_of types type ≡ Some base → HasBases types type all → depth < all → (count : ℕ) → HasBases types base count → depth ≤ count
deep_base types type base depth all is has less count of_base =
    let fewer = one_less types type base all is has in
    let same : fewer.0 ≡ count = count_is_one types base fewer.0 count fewer.2 of_base in
    omega (arith, fewer.1, same, less)

pub deep_step : (types : List TypeInfo) (type depth : ℕ) (step : Step) → IsStep types type step → (step.depth < depth → ⊥) → (count : ℕ) → HasBases types type count → depth ≤ count
deep_step types type depth step is far count has =
    let same : step.depth ≡ count = count_is_one types type step.depth count is.depth has in omega (arith, same, far)

pub leap_derives : (types : List TypeInfo) (type depth : ℕ) (step : Step) → IsStep types type step → ((count : ℕ) → HasBases types type count → depth < count) → DerivesFrom types type step.jump
leap_derives types type depth step is deep = by is.jump
  where
    by : ((base_of types type ≡ None) × (step.jump ≡ type)) ⊎ DerivesFrom types type step.jump → DerivesFrom types type step.jump
    by (inl itself) = absurd (has_base types type depth step.depth is.depth (deep step.depth is.depth) itself.0)
    by (inr derives) = derives

-- THE CLIMB

-- the climb has come to a base, which has no fewer bases than are wanted, unless it is the type itself
pub record IsClimbed (types : List TypeInfo) (type depth at count : ℕ) : Type 0 where
  pub kind : IsKindOf types type at
  pub has : HasBases types at count
  pub deep : (at ≡ type) ⊎ (depth ≤ count)

pub climbed_first : (types : List TypeInfo) (type depth : ℕ) (step : Step) → IsStep types type step → IsClimbed types type depth type step.depth
climbed_first types type depth step is = record { kind = kind_of_itself types type; has = is.depth; deep = inl refl }

pub climbed_on : (types : List TypeInfo) (type depth at count next : ℕ) (step : Step) → IsClimbed types type depth at count → DerivesFrom types at next → ((all : ℕ) → HasBases types next all → depth ≤ all) → IsStep types next step → IsClimbed types type depth next step.depth
climbed_on types type depth at count next step climbed derives deep is = record {
  kind = kind_through types type at next climbed.kind (derived_kind types at next derives);
  has = is.depth;
  deep = inr (deep step.depth is.depth);
}

pub climbed_last : (types : List TypeInfo) (type depth at count : ℕ) → IsClimbed types type depth at count → count ≤ depth → (all : ℕ) → HasBases types type all → HasBases types at (min all depth)
climbed_last types type depth at count climbed low all has = by climbed.deep
  where
    by : (at ≡ type) ⊎ (depth ≤ count) → HasBases types at (min all depth)
    by (inl same) =
        let here : all ≡ count = count_is_one types type all count has (subst (λ t. HasBases types t count) same climbed.has) in
        let least : count ≡ min all depth = omega (arith, here, low) in
        subst (HasBases types at) least climbed.has
    by (inr deep) =
        let falls : count ≤ all = count_falls types type at all count has climbed.kind climbed.has in
        let least : count ≡ min all depth = omega (arith, falls, deep, low) in
        subst (HasBases types at) least climbed.has

pub deeper : (types : List TypeInfo) (at depth count : ℕ) → HasBases types at count → depth < count → (all : ℕ) → HasBases types at all → depth < all
deeper types at depth count has less all other = let same : count ≡ all = count_is_one types at count all has other in omega (arith, same, less)

-- KINDS

-- a type is a kind of another exactly where the climb to as many bases as that one has ends there
pub climbs_to : (types : List TypeInfo) (type other at count depth : ℕ) → HasBases types type count → HasBases types other depth → IsKindOf types type at → HasBases types at (min count depth) → IsKindOf types type other → at ≡ other
climbs_to types type other at count depth has of_other kind of_at kind_other =
    let falls : depth ≤ count = count_falls types type other count depth has kind_other of_other in
    let least : min count depth ≡ depth = omega (arith, falls) in
    base_is_one types type at other count depth has kind kind_other (subst (HasBases types at) least of_at) of_other

-- COMMON BASES

-- the bases of two types, where these differ
pub bases_on : (types : List TypeInfo) (one other base beside count : ℕ) → one ≢ other → HasBases types one count → HasBases types other count → base_of types one ≡ Some base → base_of types other ≡ Some beside → AreBothOn types one other base beside
bases_on types one other base beside count apart has has_too is is_too = record {
  derives = derived_base types one base is;
  other_derives = derived_base types other beside is_too;
  even = λ fewer of_base.
      let less = one_less types one base count is has in
      let less_too = one_less types other beside count is_too has_too in
      let same : less.0 ≡ fewer = count_is_one types base less.0 fewer less.2 of_base in
      subst (HasBases types beside) (omega (arith, less.1, less_too.1, same)) less_too.2;
  shared = λ further kind kind_too. (
    kind_on types one base further is (λ same. itself types one other further count apart has has_too kind kind_too (inl same)) kind,
    kind_on types other beside further is_too (λ same. itself types one other further count apart has has_too kind kind_too (inr same)) kind_too,
  );
}
  where
    -- neither is a base of both
    itself : (types : List TypeInfo) (one other further count : ℕ) → one ≢ other → HasBases types one count → HasBases types other count → IsKindOf types one further → IsKindOf types other further → (one ≡ further) ⊎ (other ≡ further) → ⊥
    itself types one other further count apart has has_too kind kind_too (inl same) =
        apart (sym (base_is_one types other other one count count has_too (kind_of_itself types other) (subst (IsKindOf types other) (sym same) kind_too) has_too has))
    itself types one other further count apart has has_too kind kind_too (inr same) =
        apart (base_is_one types one one other count count has (kind_of_itself types one) (subst (IsKindOf types one) (sym same) kind) has has_too)

-- where they leap to, if that differs at one depth
pub leaps_on : (types : List TypeInfo) (one other jump beside count depth : ℕ) → jump ≢ beside → HasBases types one count → HasBases types other count → DerivesFrom types one jump → DerivesFrom types other beside → HasBases types jump depth → HasBases types beside depth → AreBothOn types one other jump beside
leaps_on types one other jump beside count depth apart has has_too derives derives_too of_jump of_beside = record {
  derives = derives;
  other_derives = derives_too;
  even = λ all of_all. subst (HasBases types beside) (count_is_one types jump depth all of_jump of_all) of_beside;
  shared = λ further kind kind_too.
      let rest = count_behind types kind.steps one further count kind.way has in
      by further kind kind_too rest.0 rest.2 (nat_cases rest.0 depth);
}
  where
    kind_jump : IsKindOf types one jump
    kind_jump = derived_kind types one jump derives

    kind_beside : IsKindOf types other beside
    kind_beside = derived_kind types other beside derives_too

    nat_cases : (a b : ℕ) → (a ≤ b) ⊎ (b ≤ a)
    nat_cases zero b = inl (omega arith)
    nat_cases (suc a) zero = inr (omega arith)
    nat_cases (suc a) (suc b) = elim (nat_cases a b) [
      | inl less ↦ inl (omega arith)
      | inr more ↦ inr (omega arith)
    ]

    by : (further : ℕ) → IsKindOf types one further → IsKindOf types other further → (fewer : ℕ) → HasBases types further fewer → (fewer ≤ depth) ⊎ (depth ≤ fewer) → IsKindOf types jump further × IsKindOf types beside further
    by further kind kind_too fewer of_further (inl less) = (
      base_between types one jump further count depth fewer has kind_jump kind of_jump of_further less,
      base_between types other beside further count depth fewer has_too kind_beside kind_too of_beside of_further less,
    )
    by further kind kind_too fewer of_further (inr more) =
        let over = base_between types one further jump count fewer depth has kind kind_jump of_further of_jump more in
        let over_too = base_between types other further beside count fewer depth has_too kind_too kind_beside of_further of_beside more in
        absurd (apart (base_is_one types further jump beside fewer depth of_further over over_too of_jump of_beside))

-- two different types without bases share none
pub none_shared : (types : List TypeInfo) (one other base count : ℕ) → one ≢ other → HasBases types one count → HasBases types other count → (base_of types one ≡ None) ⊎ (base_of types other ≡ None) → IsKindOf types one base → IsKindOf types other base → ⊥
none_shared types one other base count apart has has_too (inl none) kind kind_too =
    let here : one ≡ base = kind_ends types one base none kind in
    apart (sym (base_is_one types other other one count count has_too (kind_of_itself types other) (subst (IsKindOf types other) (sym here) kind_too) has_too has))
none_shared types one other base count apart has has_too (inr none) kind kind_too =
    let here : other ≡ base = kind_ends types other base none kind_too in
    apart (base_is_one types one one other count count has (kind_of_itself types one) (subst (IsKindOf types one) (sym here) kind) has has_too)

-- the search has come to bases of both types, and what both have is a base of these
pub record AreSought (types : List TypeInfo) (one other at beside count : ℕ) : Type 0 where
  pub kind : IsKindOf types one at
  pub kind_too : IsKindOf types other beside
  pub has : HasBases types at count
  pub has_too : HasBases types beside count
  pub shared : (further : ℕ) → IsKindOf types one further → IsKindOf types other further → IsKindOf types at further × IsKindOf types beside further

pub sought_on : (types : List TypeInfo) (one other at beside next next_beside count fewer : ℕ) → AreSought types one other at beside count → AreBothOn types at beside next next_beside → HasBases types next fewer → AreSought types one other next next_beside fewer
sought_on types one other at beside next next_beside count fewer sought on has = record {
  kind = kind_through types one at next sought.kind (derived_kind types at next on.derives);
  kind_too = kind_through types other beside next_beside sought.kind_too (derived_kind types beside next_beside on.other_derives);
  has = has;
  has_too = on.even fewer has;
  shared = λ further kind kind_too. let both = sought.shared further kind kind_too in on.shared further both.0 both.1;
}

pub sought_last : (types : List TypeInfo) (one other at beside count : ℕ) → at ≡ beside → AreSought types one other at beside count → IsNearestBase types one other at
sought_last types one other at beside count same sought = record {
  of_one = sought.kind;
  of_other = subst (IsKindOf types other) (sym same) sought.kind_too;
  nearest = λ further kind kind_too. (sought.shared further kind kind_too).0;
}

-- a base of both has at most as many bases as either
pub sought_first : (types : List TypeInfo) (one other at beside all all_too depth : ℕ) → HasBases types one all → HasBases types other all_too → depth ≡ min all all_too → IsKindOf types one at → HasBases types at (min all depth) → IsKindOf types other beside → HasBases types beside (min all_too depth) → AreSought types one other at beside depth
sought_first types one other at beside all all_too depth has has_too least kind of_at kind_too of_beside =
    let here : min all depth ≡ depth = omega (arith, least) in
    let there : min all_too depth ≡ depth = omega (arith, least) in
    let at_has : HasBases types at depth = subst (HasBases types at) here of_at in
    let beside_has : HasBases types beside depth = subst (HasBases types beside) there of_beside in
    record {
      kind = kind;
      kind_too = kind_too;
      has = at_has;
      has_too = beside_has;
      shared = λ further of_one of_other.
          let rest = count_behind types of_one.steps one further all of_one.way has in
          let rest_too = count_behind types of_other.steps other further all_too of_other.way has_too in
          let same : rest.0 ≡ rest_too.0 = count_is_one types further rest.0 rest_too.0 rest.2 rest_too.2 in
          let less : rest.0 ≤ depth = omega (arith, rest.1, rest_too.1, same, least) in (
            base_between types one at further all depth rest.0 has kind of_one at_has rest.2 less,
            base_between types other beside further all_too depth rest.0 has_too kind_too of_other beside_has rest.2 less,
          );
    }

-- with each step the walk of the first type has less before it
pub derived_falls : (types : List TypeInfo) → ((type : ℕ) → HasEnd (base_of types) type) → (steps type other : ℕ) → IsBehind (base_of types) (suc steps) type other → steps_left (base_of types) (suc (length types)) (Some other) < steps_left (base_of types) (suc (length types)) (Some type)
derived_falls types ends zero type other way = subst (λ t. steps_left (base_of types) (suc (length types)) (Some t) < steps_left (base_of types) (suc (length types)) (Some type)) way.2 (walk_falls types ends type way.0 way.1)
derived_falls types ends (suc steps) type other way =
    let first : steps_left (base_of types) (suc (length types)) (Some way.0) < steps_left (base_of types) (suc (length types)) (Some type) = walk_falls types ends type way.0 way.1 in
    let rest : steps_left (base_of types) (suc (length types)) (Some other) < steps_left (base_of types) (suc (length types)) (Some way.0) = derived_falls types ends steps way.0 other way.2 in
    omega (arith, first, rest)

abbrev pub AreSoughtNow : List TypeInfo → ℕ → ℕ → ℕ → ℕ → Type 0
AreSoughtNow types one other at beside = (count : ℕ) × AreSought types one other at beside count

pub sought_next : (types : List TypeInfo) → ((type : ℕ) → HasEnd (base_of types) type) → (one other at beside next next_beside : ℕ) → AreSoughtNow types one other at beside → AreBothOn types at beside next next_beside → AreSoughtNow types one other next next_beside
sought_next types ends one other at beside next next_beside sought on =
    let has = ended_count types next (ends next) in
    (has.0, sought_on types one other at beside next next_beside sought.0 has.0 sought.1 on has.1)

pub sought_even : (types : List TypeInfo) (one other at beside : ℕ) → AreSoughtNow types one other at beside → (count : ℕ) → HasBases types at count → HasBases types beside count
sought_even types one other at beside sought count has = subst (HasBases types beside) (count_is_one types at sought.0 count sought.1.has has) sought.1.has_too

pub sought_none : (types : List TypeInfo) (one other at beside : ℕ) → AreSoughtNow types one other at beside → ((base : ℕ) → IsKindOf types at base → IsKindOf types beside base → ⊥) → (base : ℕ) → IsKindOf types one base → IsKindOf types other base → ⊥
sought_none types one other at beside sought none base kind kind_too = let both = sought.1.shared base kind kind_too in none base both.0 both.1

-- a type that has a base leaps to one
pub leap_over : (types : List TypeInfo) (type base : ℕ) (step : Step) → IsStep types type step → base_of types type ≡ Some base → DerivesFrom types type step.jump
leap_over types type base step is has = by is.jump
  where
    by : ((base_of types type ≡ None) × (step.jump ≡ type)) ⊎ DerivesFrom types type step.jump → DerivesFrom types type step.jump
    by (inl itself) = let none : base_of types type ≡ None = itself.0 in absurd (cc)
    by (inr derives) = derives
