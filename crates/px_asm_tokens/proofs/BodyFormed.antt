-- The body of a method is well formed, as the method is.
use Rattle.std.proofs.Common.{◌≡◌, ◌≢◌, ℕ, ◌+◌, ◌*◌, ◌<◌, ◌^◌, suc, Bool, true, List, [], ◌∷◌, ◌++◌, Some, None, get_or, length, take, refl, sym, ap, ◌∙◌, subst, arith}
use Rattle.std.specs.Prelude.{◌==◌, ◌&&◌, ◌||◌, not, nat_lt, find, if◌then◌else◌}
use Rattle.std.specs.List.{AllByRecursion, AllZip, list_all}
use Rattle.std.proofs.lemmas.Bool.{and_from, and_parts, lt-ltb}
use Rattle.std.proofs.lemmas.List.{get_or_default}
use Rattle.px_code.specs.Body as raw
use Rattle.px_code.specs.declared.body.Body.{Body}
use Rattle.px_code.specs.declared.body.RawClause.{RawClause}
use Rattle.px_code.specs.declared.body.RawInstr.{RawInstr}
use Rattle.px_asm_bodies.specs.Encoding.{IsEncodable}
use Rattle.px_link_methods.proofs.Pieces.{zipped_more}
use Rattle.px_program.specs.Formed as made
use Rattle.px_program.specs.declared.instr.Instr.{Instr}
use Rattle.px_program.specs.declared.program.Clause.{Clause}
use Rattle.px_program.specs.declared.program.ClauseKind.{ClauseKind}
use Rattle.px_program.specs.declared.program.ClauseKind.TheVariants as kinds
use Rattle.px_program.specs.declared.program.Method.{Method}
use Rattle.px_program.specs.declared.program.Program.{Program}
use Rattle.px_asm_opcodes.specs.Recoding.{IsPlacedAs}
use Rattle.px_asm_described.specs.Describes.{flags_of, raw_clause}
use Rattle.px_asm_described.specs.Writable.{IsWritableClause}
use Rattle.px_asm_law_written.specs.Holds.{IsBodyIn, IsInstrIn}
use Rattle.px_asm_law_written.specs.Store.{Store}
use Rattle.px_asm_tokens.proofs.BodyTargets.{raw_leads}

-- WHERE INSTRUCTIONS STAND

follow : (at : ℕ) (ys : List Instr) (xs : List RawInstr) → AllZip IsPlacedAs ys xs → made.Follow at ys → raw.Follow at xs
follow at [] [] placed h = tt
follow at [] (x ∷ xs) placed h = absurd placed
follow at (y ∷ ys) [] placed h = absurd placed
follow at (y ∷ ys) (x ∷ xs) placed h =
    (placed.0.offset ∙ h.0, omega (arith, h.1, placed.0.next), subst (λ a. raw.Follow a xs) (sym placed.0.next) (follow y.next ys xs placed.1 h.2))

starts : (ys : List Instr) (xs : List RawInstr) → AllZip IsPlacedAs ys xs → (at : ℕ) → raw.is_start xs at ≡ made.is_start ys at
starts [] [] placed at = refl
starts [] (x ∷ xs) placed at = absurd placed
starts (y ∷ ys) [] placed at = absurd placed
starts (y ∷ ys) (x ∷ xs) placed at = ap (λ o. (o == at) || raw.is_start xs at) placed.0.offset ∙ ap (λ b. (y.offset == at) || b) (starts ys xs placed.1 at)

ends : (ys : List Instr) (xs : List RawInstr) → AllZip IsPlacedAs ys xs → raw.end_of xs ≡ made.end_of ys
ends [] [] placed = refl
ends [] (x ∷ xs) placed = absurd placed
ends (y ∷ ys) [] placed = absurd placed
ends (y ∷ []) (x ∷ []) placed = placed.0.next
ends (y ∷ []) (x ∷ w ∷ xs) placed = absurd placed.1
ends (y ∷ z ∷ ys) (x ∷ []) placed = absurd placed.1
ends (y ∷ z ∷ ys) (x ∷ w ∷ xs) placed = ends (z ∷ ys) (w ∷ xs) placed.1

-- RANGES

range : (ys : List Instr) (xs : List RawInstr) → AllZip IsPlacedAs ys xs → (from to : ℕ) → from < to → made.is_range ys from to ≡ true → raw.is_range xs from to ≡ true
range ys xs placed from to less h =
    let p = and_parts (made.is_start ys from) (made.is_start ys to || (to == made.end_of ys)) h in
    and_from (nat_lt from to && raw.is_start xs from) (raw.is_start xs to || (to == raw.end_of xs))
    (and_from (nat_lt from to) (raw.is_start xs from) (lt-ltb from to less) (starts ys xs placed from ∙ p.0))
    (ap (λ b. b || (to == raw.end_of xs)) (starts ys xs placed to) ∙ ap (λ n. made.is_start ys to || (to == n)) (ends ys xs placed) ∙ p.1)

known : (kind : ClauseKind) → raw.is_among ((0, 2) ∷ (4, 4) ∷ []) (flags_of kind) ≡ true
known kinds.Catch = refl
known kinds.Filter = refl
known kinds.Finally = refl
known kinds.Fault = refl

placed_clause : (program : Program) (ys : List Instr) (xs : List RawInstr) → AllZip IsPlacedAs ys xs → (c : Clause) → IsWritableClause program c → made.is_placed ys c ≡ true → raw.is_placed xs (raw_clause program c) ≡ true
placed_clause program ys xs placed c writable h =
    let p = and_parts (made.is_range ys c.from c.to) (made.is_range ys c.start c.stop) h in
    let kind = raw.is_among ((0, 2) ∷ (4, 4) ∷ []) (flags_of c.kind) in
    and_from (kind && raw.is_range xs c.from c.to) (raw.is_range xs c.start c.stop)
    (and_from kind (raw.is_range xs c.from c.to) (known c.kind) (range ys xs placed c.from c.to writable.tried p.0))
    (range ys xs placed c.start c.stop writable.handled p.1)

placed_clauses : (program : Program) (ys : List Instr) (xs : List RawInstr) → AllZip IsPlacedAs ys xs → (cs : List Clause) (rs : List RawClause) → AllByRecursion (IsWritableClause program) cs → list_all (made.is_placed ys) cs ≡ true
    → AllZip (λ c r. r ≡ raw_clause program c) cs rs → list_all (raw.is_placed xs) rs ≡ true
placed_clauses program ys xs placed [] [] writable h are = refl
placed_clauses program ys xs placed [] (r ∷ rs) writable h are = absurd are
placed_clauses program ys xs placed (c ∷ cs) [] writable h are = absurd are
placed_clauses program ys xs placed (c ∷ cs) (r ∷ rs) writable h are =
    let p = and_parts (made.is_placed ys c) (list_all (made.is_placed ys) cs) h in
    and_from (raw.is_placed xs r) (list_all (raw.is_placed xs) rs)
    (subst (λ k. raw.is_placed xs k ≡ true) (sym are.0) (placed_clause program ys xs placed c writable.0 p.0))
    (placed_clauses program ys xs placed cs rs writable.1 p.1 are.1)

clauses_count : (program : Program) (cs : List Clause) (rs : List RawClause) → AllZip (λ c r. r ≡ raw_clause program c) cs rs → length rs ≡ length cs
clauses_count program [] [] are = refl
clauses_count program [] (r ∷ rs) are = absurd are
clauses_count program (c ∷ cs) [] are = absurd are
clauses_count program (c ∷ cs) (r ∷ rs) are = ap (λ n. suc n) (clauses_count program cs rs are.1)

-- one more clause
pub clauses_more : (program : Program) (cs : List Clause) (i : ℕ) (d : Clause) (rs news : List RawClause) (r : RawClause) → AllZip (λ c r. r ≡ raw_clause program c) (take i cs) rs → i < length cs → r ≡ raw_clause program (get_or cs i d) → news ≡ rs ++ r ∷ []
    → AllZip (λ c r. r ≡ raw_clause program c) (take (i + 1) cs) news
clauses_more program cs i d rs news r are less is e = zipped_more (λ (c : Clause) (r : RawClause). r ≡ raw_clause program c) cs i (get_or cs i d) rs news r are less (get_or_default cs i d (get_or cs i d) less) is e

-- TARGETS

same_tests : (p q : ℕ → Bool) (ts : List ℕ) → ((t : ℕ) → q t ≡ p t) → list_all p ts ≡ true → list_all q ts ≡ true
same_tests p q [] same h = refl
same_tests p q (t ∷ ts) same h =
    let e = and_parts (p t) (list_all p ts) h in
    and_from (q t) (list_all q ts) (same t ∙ e.0) (same_tests p q ts same e.1)

module _ (program : Program) (s : Store) where
  -- all that instructions lead to passes
  none_bad : (p q : ℕ → Bool) → ((t : ℕ) → q t ≡ p t) → (ys : List Instr) (xs : List RawInstr) → AllZip (IsInstrIn program s) ys xs → list_all (λ i. list_all p (made.targets_of i.code)) ys ≡ true → find (λ i. not (list_all q i.targets)) xs ≡ None
  none_bad p q same [] [] are h = refl
  none_bad p q same [] (x ∷ xs) are h = absurd are
  none_bad p q same (y ∷ ys) [] are h = absurd are
  none_bad p q same (y ∷ ys) (x ∷ xs) are h =
      let e = and_parts (list_all p (made.targets_of y.code)) (list_all (λ i. list_all p (made.targets_of i.code)) ys) h in
      let leads = same_tests p q x.targets same (raw_leads y are.0.token x p are.0.is e.0) in
      ap (λ b. if not b then Some x else find (λ i. not (list_all q i.targets)) xs) leads ∙ none_bad p q same ys xs are.1 e.1

  placed_as : (ys : List Instr) (xs : List RawInstr) → AllZip (IsInstrIn program s) ys xs → AllZip IsPlacedAs ys xs
  placed_as [] [] are = tt
  placed_as [] (x ∷ xs) are = absurd are
  placed_as (y ∷ ys) [] are = absurd are
  placed_as (y ∷ ys) (x ∷ xs) are = (are.0.is.placed, placed_as ys xs are.1)

  pub all_encodable : (ys : List Instr) (xs : List RawInstr) → AllZip (IsInstrIn program s) ys xs → AllByRecursion IsEncodable xs
  all_encodable [] [] are = tt
  all_encodable [] (x ∷ xs) are = absurd are
  all_encodable (y ∷ ys) [] are = absurd are
  all_encodable (y ∷ ys) (x ∷ xs) are = (are.0.is.encodable, all_encodable ys xs are.1)

  not_empty : (ys : List Instr) (xs : List RawInstr) → AllZip (IsInstrIn program s) ys xs → ys ≢ [] → xs ≢ []
  not_empty [] xs are some = absurd (some refl)
  not_empty (y ∷ ys) [] are some = absurd are
  not_empty (y ∷ ys) (x ∷ xs) are some = λ e. absurd (cc)

  -- ALL

  pub is_body : (row : ℕ) (method : Method) (body : Body) → method.code ≢ [] → made.IsFormedIn program method → AllByRecursion (IsWritableClause program) method.clauses → body.max_stack ≡ method.max_stack → body.locals_token ≡ 0x11 * 2 ^ 24 + row
      → AllZip (IsInstrIn program s) method.code body.code → AllZip (λ c r. r ≡ raw_clause program c) method.clauses body.clauses → IsBodyIn program s row method body
  is_body row method body some formed writable stack locals code clauses =
      let placed = placed_as method.code body.code code in
      record {
        formed = record {
          some = not_empty method.code body.code code some;
          follow = follow 0 method.code body.code placed formed.formed.follow;
          lead = none_bad (made.is_start method.code) (raw.is_start body.code) (starts method.code body.code placed) method.code body.code code formed.formed.lead;
          ranges = placed_clauses program method.code body.code placed method.clauses body.clauses writable formed.formed.ranges clauses;
          few = omega (arith, clauses_count program method.clauses body.clauses clauses, formed.few_clauses);
        };
        max_stack = stack;
        locals = locals;
        code = code;
        clauses = clauses;
      }
