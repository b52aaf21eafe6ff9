-- The table of a typing: what its entries are, read off the cells that stand behind them.
use Rattle.std.proofs.Common.{◌≡◌, ◌≢◌, ℕ, zero, suc, ◌<◌, ◌≤◌, inl, inr, true, false, List, [], ◌∷◌, length, map, Option, Some, None, refl, ap, sym, ◌∙◌, subst, arith, eqb}
use Rattle.std.specs.Prelude.{nat_lt, slice_get, slice_index_or, slice_set}
use Rattle.std.specs.List.{AllByRecursion}
use Rattle.std.proofs.lemmas.Bool.Decides.{eqb_tells, nat_tests}
use Rattle.std.proofs.lemmas.Option.{slice_get-get_or, slice_get_past}
use Rattle.px_program.specs.Formed.{AreTypes}
use Rattle.px_program.specs.declared.program.TypeInfo.{TypeInfo}
use Rattle.px_verify_kinds.specs.Heights.{met_with, stack_height}
use Rattle.px_verify_kinds.specs.Kinds.{merge}
use Rattle.px_verify_kinds.specs.Stacks.{Extends, IsStack, IsStackIn, kinds_in, kinds_of}
use Rattle.px_verify_kinds.specs.declared.kind.Kind.{Kind}
use Rattle.px_verify_kinds.specs.declared.stacks.Cell.{Cell}
use Rattle.px_verify_kinds.specs.declared.stacks.Stack.{Stack}
use Rattle.px_verify_rounds.specs.Rounds.{Gave, potential}
use Rattle.px_verify_rounds.specs.Table.{Table}
use Rattle.px_verify_rounds.proofs.Gives.{Laws, give_none, give_same, give_some, potential_falls}

-- the table that entries are
abbrev pub read : List Cell → List (Option Stack) → Table
read cells entries = map (kinds_in cells) entries

abbrev pub AreThere : List Cell → List (Option Stack) → Type 0
AreThere cells entries = AllByRecursion (IsStackIn cells) entries

-- LOOKING

pub entry_read : (cells : List Cell) (entries : List (Option Stack)) (at : ℕ) (entry : Option Stack) → slice_get entries at ≡ Some entry → slice_get (read cells entries) at ≡ Some (kinds_in cells entry)
entry_read cells [] at entry e = absurd (cc)
entry_read cells (x ∷ entries) zero entry e = let is : x ≡ entry = cc (e) in ap (λ z. Some (kinds_in cells z)) is
entry_read cells (x ∷ entries) (suc at) entry e = entry_read cells entries at entry e

pub none_read : (cells : List Cell) (entries : List (Option Stack)) (at : ℕ) → slice_get entries at ≡ None → slice_get (read cells entries) at ≡ None
none_read cells [] at e = refl
none_read cells (x ∷ entries) zero e = absurd (cc)
none_read cells (x ∷ entries) (suc at) e = none_read cells entries at e

pub entry_there : (cells : List Cell) (entries : List (Option Stack)) (at : ℕ) (entry : Option Stack) → AreThere cells entries → slice_get entries at ≡ Some entry → IsStackIn cells entry
entry_there cells [] at entry there e = absurd (cc)
entry_there cells (x ∷ entries) zero entry there e = let is : x ≡ entry = cc (e) in subst (IsStackIn cells) is there.0
entry_there cells (x ∷ entries) (suc at) entry there e = entry_there cells entries at entry there.1 e

-- WRITING

pub set_read : (cells : List Cell) (entries : List (Option Stack)) (at : ℕ) (entry : Option Stack) → read cells (slice_set entries at entry) ≡ slice_set (read cells entries) at (kinds_in cells entry)
set_read cells [] at entry = refl
set_read cells (x ∷ entries) zero entry = refl
set_read cells (x ∷ entries) (suc at) entry = ap (λ z. kinds_in cells x ∷ z) (set_read cells entries at entry)

pub set_there : (cells : List Cell) (entries : List (Option Stack)) (at : ℕ) (entry : Option Stack) → AreThere cells entries → IsStackIn cells entry → AreThere cells (slice_set entries at entry)
set_there cells [] at entry there is = tt
set_there cells (x ∷ entries) zero entry there is = (is, there.1)
set_there cells (x ∷ entries) (suc at) entry there is = (there.0, set_there cells entries at entry there.1 is)

-- MORE CELLS

pub kinds_same : (old new : List Cell) (stack : Stack) → Extends old new → IsStack old stack → kinds_of new stack ≡ kinds_of old stack
kinds_same old new stack more there = more.same stack.top there

pub stack_there : (old new : List Cell) (stack : Stack) → Extends old new → IsStack old stack → IsStack new stack
stack_there old new stack more there = omega (arith, more.more, there)

pub in_same : (old new : List Cell) (entry : Option Stack) → Extends old new → IsStackIn old entry → kinds_in new entry ≡ kinds_in old entry
in_same old new None more there = refl
in_same old new (Some stack) more there = ap Some (kinds_same old new stack more there)

in_there : (old new : List Cell) (entry : Option Stack) → Extends old new → IsStackIn old entry → IsStackIn new entry
in_there old new None more there = tt
in_there old new (Some stack) more there = stack_there old new stack more there

pub read_same : (old new : List Cell) (entries : List (Option Stack)) → Extends old new → AreThere old entries → read new entries ≡ read old entries
read_same old new [] more there = refl
read_same old new (x ∷ entries) more there =
    let first = in_same old new x more there.0 in
    let rest = read_same old new entries more there.1 in
    ap (λ z. z ∷ read new entries) first ∙ ap (λ z. kinds_in old x ∷ z) rest

pub all_there : (old new : List Cell) (entries : List (Option Stack)) → Extends old new → AreThere old entries → AreThere new entries
all_there old new [] more there = tt
all_there old new (x ∷ entries) more there = (in_there old new x more there.0, all_there old new entries more there.1)

pub extends_itself : (cells : List Cell) → Extends cells cells
extends_itself cells = record { more = omega arith; same = λ number le. refl }

pub extends_on : (old between new : List Cell) → Extends old between → Extends between new → Extends old new
extends_on old between new first second = record {
  more = omega (arith, first.more, second.more);
  same = λ number le. second.same number (omega (arith, first.more, le)) ∙ first.same number le;
}

-- WHAT A GIFT DOES

-- there is no such offset
pub gave_nowhere : (types : List TypeInfo) (given : List Kind) (at : ℕ) (cells : List Cell) (entries : List (Option Stack)) → slice_get entries at ≡ None
    → Gave types given at (read cells entries) (read cells entries) false
gave_nowhere types given at cells entries e = record {
  table = sym (give_none types given (read cells entries) at (none_read cells entries at e));
  still = λ h. refl;
  falls = λ h. absurd (cc);
}

-- the first stack that comes stands there
pub gave_first : (types : List TypeInfo) (at : ℕ) (cells : List Cell) (entries : List (Option Stack)) (given : Stack) → slice_get entries at ≡ Some None
    → Gave types (kinds_of cells given) at (read cells entries) (read cells (slice_set entries at (Some given))) true
gave_first types at cells entries given e =
    let before : slice_get (read cells entries) at ≡ Some None = entry_read cells entries at None e in
    let set = set_read cells entries at (Some given) in
    record {
      table = set ∙ sym (give_some types (kinds_of cells given) (read cells entries) at None before);
      still = λ h. absurd (cc);
      falls = λ h most low. subst (λ (t : Table). potential types most t < potential types most (read cells entries)) (sym set) (potential_falls types most (read cells entries) at None (Some (kinds_of cells given)) before low);
    }

-- a stack comes to one that it doesn't merge with
pub gave_clash : (types : List TypeInfo) (at : ℕ) (old new : List Cell) (entries : List (Option Stack)) (standing given : Stack) → Extends old new → AreThere old entries → slice_get entries at ≡ Some (Some standing)
    → merge types (kinds_of old standing) (kinds_of old given) ≡ None → Gave types (kinds_of old given) at (read old entries) (read new entries) false
gave_clash types at old new entries standing given more there e clash =
    let same = read_same old new entries more there in
    let before : slice_get (read old entries) at ≡ Some (Some (kinds_of old standing)) = entry_read old entries at (Some standing) e in
    record {
      table = same ∙ sym (give_same types (kinds_of old given) (read old entries) at (Some (kinds_of old standing)) before (ap (λ x. Some (met_with (kinds_of old standing) x)) clash));
      still = λ h. same;
      falls = λ h. absurd (cc);
    }

-- or merges, and changes nothing
pub gave_still : (types : List TypeInfo) (at : ℕ) (old new : List Cell) (entries : List (Option Stack)) (standing given : Stack) → Extends old new → AreThere old entries → slice_get entries at ≡ Some (Some standing)
    → merge types (kinds_of old standing) (kinds_of old given) ≡ Some (kinds_of new standing) → Gave types (kinds_of old given) at (read old entries) (read new entries) false
gave_still types at old new entries standing given more there e merged =
    let same = read_same old new entries more there in
    let is : IsStack old standing = entry_there old entries at (Some standing) there e in
    let before : slice_get (read old entries) at ≡ Some (Some (kinds_of old standing)) = entry_read old entries at (Some standing) e in
    let stands : kinds_of new standing ≡ kinds_of old standing = kinds_same old new standing more is in
    record {
      table = same ∙ sym (give_same types (kinds_of old given) (read old entries) at (Some (kinds_of old standing)) before (ap (λ x. Some (met_with (kinds_of old standing) x)) merged ∙ ap Some stands));
      still = λ h. same;
      falls = λ h. absurd (cc);
    }

-- or becomes another one with it
pub gave_merged : (types : List TypeInfo) (at : ℕ) (old new : List Cell) (entries : List (Option Stack)) (standing given merged : Stack) → Laws → AreTypes types → Extends old new → AreThere old entries → slice_get entries at ≡ Some (Some standing)
    → merge types (kinds_of old standing) (kinds_of old given) ≡ Some (kinds_of new merged) → kinds_of new merged ≢ kinds_of old standing
    → Gave types (kinds_of old given) at (read old entries) (read new (slice_set entries at (Some merged))) true
gave_merged types at old new entries standing given merged laws are more there e merges other =
    let same = read_same old new entries more there in
    let before : slice_get (read old entries) at ≡ Some (Some (kinds_of old standing)) = entry_read old entries at (Some standing) e in
    let set : read new (slice_set entries at (Some merged)) ≡ slice_set (read old entries) at (Some (kinds_of new merged)) =
    set_read new entries at (Some merged) ∙ ap (λ (t : Table). slice_set t at (Some (kinds_of new merged))) same in
    let lower : stack_height types (kinds_of new merged) < stack_height types (kinds_of old standing) =
    elim (laws.falls types are (kinds_of old standing) (kinds_of old given) (kinds_of new merged) merges) [ inl is ↦ absurd (other is) | inr falls ↦ falls ] in
    record {
      table = set ∙ sym (give_some types (kinds_of old given) (read old entries) at (Some (kinds_of old standing)) before ∙ ap (λ x. slice_set (read old entries) at (Some (met_with (kinds_of old standing) x))) merges);
      still = λ h. absurd (cc);
      falls = λ h most low. subst (λ (t : Table). potential types most t < potential types most (read old entries)) (sym set)
          (potential_falls types most (read old entries) at (Some (kinds_of old standing)) (Some (kinds_of new merged)) before lower);
    }

-- stacks by their numbers
pub same_stack : (one other : Stack) → one.top ≡ other.top → one ≡ other
same_stack one other e = ap (λ (n : ℕ). let stack : Stack = record { top = n } in stack) e

pub other_kinds : (old new : List Cell) (merged standing : Stack) → (kinds_in new (Some merged) ≡ Some (kinds_of old standing) → Some merged ≡ Some standing) → eqb merged.top standing.top ≡ false → kinds_of new merged ≢ kinds_of old standing
other_kinds old new merged standing same apart e =
    let is : merged ≡ standing = cc (same (ap Some e)) in
    elim (eqb_tells merged.top standing.top) [
      | inl alike ↦ let both : true ≡ false = sym alike.0 ∙ apart in absurd (cc)
      | inr differ ↦ differ.1 (ap (λ (s : Stack). s.top) is)
    ]

-- what a look at a place found
pub seen_at : (entries seen : List (Option Stack)) (at : ℕ) (entry : Option Stack) → seen ≡ entries → true ≡ nat_lt at (length seen) → entry ≡ slice_index_or seen at entry → slice_get entries at ≡ Some entry
seen_at entries seen at entry same within is =
    let inside : at < length seen = grind (arith, nat_tests) in
    subst (λ (xs : List (Option Stack)). slice_get xs at ≡ Some entry) same (slice_get-get_or seen at entry inside ∙ ap Some (sym is))

-- and what one behind the last place did
pub none_at : (entries seen : List (Option Stack)) (at : ℕ) → seen ≡ entries → false ≡ nat_lt at (length seen) → slice_get entries at ≡ None
none_at entries seen at same past =
    let behind : length seen ≤ at = grind (arith, nat_tests) in
    subst (λ (xs : List (Option Stack)). slice_get xs at ≡ None) same (slice_get_past seen at behind)
