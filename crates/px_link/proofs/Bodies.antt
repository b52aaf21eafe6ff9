-- Instructions that stand where raw ones do follow each other, lead and range as these do.
use Rattle.std.proofs.Common.{◌≡◌, ◌≢◌, ℕ, Bool, true, false, List, [], ◌∷◌, Option, Some, None, refl, sym, ap, ◌∙◌, subst, arith, map}
use Rattle.std.specs.Prelude.{◌==◌, ◌&&◌, ◌||◌, not, nat_lt, find, slice_index, if◌then◌else◌}
use Rattle.std.specs.List.{AllByRecursion, AllZip, list_all}
use Rattle.std.proofs.lemmas.Bool.{and_from, and_parts, eq-eqb, or_left}
use Rattle.px_code.specs.declared.body.Body.{Body}
use Rattle.px_code.specs.declared.body.RawClause.{RawClause}
use Rattle.px_code.specs.declared.body.RawInstr.{RawInstr}
use Rattle.px_code.specs.Body as raw
use Rattle.px_program.specs.Formed as made
use Rattle.px_program.specs.declared.instr.Instr.{Instr}
use Rattle.px_program.specs.declared.program.Program.{Program}
use Rattle.px_link_methods.specs.Methods.{clause_of}
use Rattle.px_link_opcodes.proofs.Fitting.{Fits}

-- an instruction stands where a raw one does
pub record IsPlacedAs (x : RawInstr) (y : Instr) : Type 0 where
  pub offset : y.offset ≡ x.offset
  pub next : y.next ≡ x.next

pub follow : (at : ℕ) (xs : List RawInstr) (ys : List Instr) → AllZip IsPlacedAs xs ys → raw.Follow at xs → made.Follow at ys
follow at [] [] placed h = tt
follow at [] (y ∷ ys) placed h = absurd placed
follow at (x ∷ xs) [] placed h = absurd placed
follow at (x ∷ xs) (y ∷ ys) placed h =
    (placed.0.offset ∙ h.0, omega (arith, h.1, placed.0.next), subst (λ a. made.Follow a ys) (sym placed.0.next) (follow x.next xs ys placed.1 h.2))

pub starts : (xs : List RawInstr) (ys : List Instr) → AllZip IsPlacedAs xs ys → (at : ℕ) → made.is_start ys at ≡ raw.is_start xs at
starts [] [] placed at = refl
starts [] (y ∷ ys) placed at = absurd placed
starts (x ∷ xs) [] placed at = absurd placed
starts (x ∷ xs) (y ∷ ys) placed at = ap (λ o. (o == at) || made.is_start ys at) placed.0.offset ∙ ap (λ b. (x.offset == at) || b) (starts xs ys placed.1 at)

ends : (xs : List RawInstr) (ys : List Instr) → AllZip IsPlacedAs xs ys → made.end_of ys ≡ raw.end_of xs
ends [] [] placed = refl
ends [] (y ∷ ys) placed = absurd placed
ends (x ∷ xs) [] placed = absurd placed
ends (x ∷ []) (y ∷ []) placed = placed.0.next
ends (x ∷ []) (y ∷ z ∷ ys) placed = absurd placed.1
ends (x ∷ w ∷ xs) (y ∷ []) placed = absurd placed.1
ends (x ∷ w ∷ xs) (y ∷ z ∷ ys) placed = ends (w ∷ xs) (z ∷ ys) placed.1

-- RANGES

range : (xs : List RawInstr) (ys : List Instr) → AllZip IsPlacedAs xs ys → (from to : ℕ) → raw.is_range xs from to ≡ true → made.is_range ys from to ≡ true
range xs ys placed from to h =
    let p = and_parts (nat_lt from to && raw.is_start xs from) (raw.is_start xs to || (to == raw.end_of xs)) h in
    let q = and_parts (nat_lt from to) (raw.is_start xs from) p.0 in
    and_from (made.is_start ys from) (made.is_start ys to || (to == made.end_of ys)) (starts xs ys placed from ∙ q.1)
    (ap (λ b. b || (to == made.end_of ys)) (starts xs ys placed to) ∙ ap (λ n. raw.is_start xs to || (to == n)) (ends xs ys placed) ∙ p.1)

ranges : (xs : List RawInstr) (ys : List Instr) → AllZip IsPlacedAs xs ys → (class : Option ℕ) (c : RawClause) → raw.is_placed xs c ≡ true → made.is_placed ys (clause_of class c) ≡ true
ranges xs ys placed class c h =
    let known = raw.is_among ((0, 2) ∷ (4, 4) ∷ []) c.flags in
    let p = and_parts (known && raw.is_range xs c.from c.to) (raw.is_range xs c.start c.stop) h in
    let q = and_parts known (raw.is_range xs c.from c.to) p.0 in
    and_from (made.is_range ys c.from c.to) (made.is_range ys c.start c.stop) (range xs ys placed c.from c.to q.1) (range xs ys placed c.start c.stop p.1)

pub all_ranges : (xs : List RawInstr) (ys : List Instr) → AllZip IsPlacedAs xs ys → (class_of : RawClause → Option ℕ) (cs : List RawClause) → list_all (raw.is_placed xs) cs ≡ true
    → list_all (made.is_placed ys) (map (λ c. clause_of (class_of c) c) cs) ≡ true
all_ranges xs ys placed class_of [] h = refl
all_ranges xs ys placed class_of (c ∷ cs) h =
    let p = and_parts (raw.is_placed xs c) (list_all (raw.is_placed xs) cs) h in
    and_from (made.is_placed ys (clause_of (class_of c) c)) (list_all (made.is_placed ys) (map (λ c. clause_of (class_of c) c) cs)) (ranges xs ys placed (class_of c) c p.0) (all_ranges xs ys placed class_of cs p.1)

-- TARGETS

first_there : (xs : List RawInstr) → xs ≢ [] → raw.Follow 0 xs → raw.is_start xs 0 ≡ true
first_there [] h f = absurd (h refl)
first_there (x ∷ xs) h f = or_left (x.offset == 0) (raw.is_start xs 0) (eq-eqb x.offset 0 f.0)

-- the first target, or 0 where there is none, passes where all do and 0 does
target_there : (p : ℕ → Bool) (targets : List ℕ) → p 0 ≡ true → list_all p targets ≡ true → p (slice_index targets 0) ≡ true
target_there p [] first h = first
target_there p (t ∷ ts) first h = (and_parts (p t) (list_all p ts) h).0

same_tests : (p q : ℕ → Bool) (ts : List ℕ) → ((t : ℕ) → p t ≡ q t) → list_all q ts ≡ true → list_all p ts ≡ true
same_tests p q [] same h = refl
same_tests p q (t ∷ ts) same h =
    let e = and_parts (q t) (list_all q ts) h in
    and_from (p t) (list_all p ts) (same t ∙ e.0) (same_tests p q ts same e.1)

-- all targets of a raw instruction are starts, and so is the first
pub record HasStarts (ys : List Instr) (x : RawInstr) : Type 0 where
  pub all : list_all (made.is_start ys) x.targets ≡ true
  pub first : made.is_start ys (slice_index x.targets 0) ≡ true

has_starts : (xs : List RawInstr) (ys : List Instr) → AllZip IsPlacedAs xs ys → raw.is_start xs 0 ≡ true → (x : RawInstr) → raw.leads_well xs x ≡ true → HasStarts ys x
has_starts xs ys placed first x leads =
    let all = same_tests (made.is_start ys) (raw.is_start xs) x.targets (starts xs ys placed) leads in
    record { all = all; first = target_there (made.is_start ys) x.targets (starts xs ys placed 0 ∙ first) all }

well_or_some : (b : Bool) (x : RawInstr) (o : Option RawInstr) → (if not b then Some x else o) ≡ None → (b ≡ true) × (o ≡ None)
well_or_some true x o h = (refl, h)
well_or_some false x o h = absurd (cc)

each_starts : (xs : List RawInstr) (ys : List Instr) → AllZip IsPlacedAs xs ys → raw.is_start xs 0 ≡ true → (left : List RawInstr) → find (λ i. not (raw.leads_well xs i)) left ≡ None → AllByRecursion (HasStarts ys) left
each_starts xs ys placed first [] h = tt
each_starts xs ys placed first (x ∷ left) h =
    let w = well_or_some (raw.leads_well xs x) x (find (λ i. not (raw.leads_well xs i)) left) h in
    (has_starts xs ys placed first x w.0, each_starts xs ys placed first left w.1)

-- the instructions of a well formed body lead to starts
pub all_starts : (body : Body) (ys : List Instr) → AllZip IsPlacedAs body.code ys → raw.IsFormed body → AllByRecursion (HasStarts ys) body.code
all_starts body ys placed formed = each_starts body.code ys placed (first_there body.code formed.some formed.follow) body.code formed.lead

-- what fits one by one leads and names well
pub all_fit : (p : ℕ → Bool) (program : Program) (ys : List Instr) → AllByRecursion (λ i. Fits p program i.code) ys
    → (list_all (λ i. list_all p (made.targets_of i.code)) ys ≡ true) × AllByRecursion (λ i. made.HasOperands program i.code) ys
all_fit p program [] fit = (refl, tt)
all_fit p program (y ∷ ys) fit =
    let later = all_fit p program ys fit.1 in
    (and_from (list_all p (made.targets_of y.code)) (list_all (λ i. list_all p (made.targets_of i.code)) ys) fit.0.leads later.0, (fit.0.operands, later.1))
