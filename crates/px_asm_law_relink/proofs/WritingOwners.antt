-- The owners of a linked program's methods are types of the assembly, and stand in the order of the methods' rows.
use Rattle.std.proofs.Common.{◌≡◌, ◌≢◌, ℕ, zero, suc, ◌+◌, ◌-◌, ◌≤◌, ◌<◌, true, ◌++◌, get_or, Option, Some, None, refl, sym, ap, ◌∙◌, subst, ⊎_elim, arith}
use Rattle.std.specs.Prelude.{◌==◌, AllPairs, IsSome, codes, find, nat_le, nat_lt, slice_get}
use Rattle.std.specs.List.{AllByRecursion}
use Rattle.std.specs.Option.{unwrap_or}
use Rattle.std.proofs.lemmas.Bool.{and_parts, cases_lt, cond-false, leb-true, ltb-true, ne_eqb}
use Rattle.std.proofs.lemmas.Option.{same_Some, slice_get-get_or, slice_get_within}
use Rattle.px_link.proofs.LinkedProgram.{owner_numbered}
use Rattle.px_link.proofs.LinkedTypes.{defined_type}
use Rattle.px_link_methods.proofs.RowPlaces.{found_passes, in_at, places_rise}
use Rattle.px_link.specs.Layout.{row_of_key, type_row}
use Rattle.px_link.proofs.OneName.{one_name}
use Rattle.px_meta.proofs.Alike.{owner_row}
use Rattle.px_meta.specs.Faults.{IsFaultless, Lists}
use Rattle.px_meta.specs.Members.{is_listed, list_end, list_start, owner_of}
use Rattle.px_meta.specs.Rows.{IsRow, cell, count_of, is_in, methods, rows_in, text_at, type_defs}
use Rattle.px_meta.specs.declared.fault.MetaKind.TheVariants.{BadList}
use Rattle.px_link_methods.specs.Codes.{place_of}
use Rattle.px_program.proofs.Types.{each_at}
use Rattle.px_program.specs.declared.program.Method.{Method}
use Rattle.px_program.specs.declared.program.Program.{Program}
use Rattle.px_link_reach.specs.Met.{IsOwned}
use Rattle.px_tables.specs.Metadata.{View}
use Rattle.px_link_types.proofs.Formed.{at_place}
use Rattle.px_link_types.proofs.Keyed.{at_number}
use Rattle.px_link_types.specs.Keys.{alone}
use Rattle.px_link_types.specs.Numbers.{number_of}
use Rattle.px_link_types.specs.declared.key.Leaf.TheVariants.{Defined}
use Rattle.px_asm_law_relink.proofs.TypeOwned.{reached_owned}
use Rattle.px_asm_law_relink.proofs.WritingMethods.{count_is, each_at_place, has_row, some_value}
use Rattle.px_asm_law_relink.proofs.WritingTexts.{method_text}
use Rattle.px_asm_law_relink.proofs.WritingTypes.{HasNumber, have_all, type_placed}
use Rattle.px_asm_law_relink.specs.Linked.{IsLinked}
use Rattle.px_asm_described.specs.Writable.{HasOwner, owner_in, owner_place}

-- OWNERS

pub owner_has : {p : Program} (l : IsLinked p) (number row : ℕ) → slice_get l.assembly.reads.reached.rows number ≡ Some row → HasNumber l (owner_of l.assembly.v methods row)
owner_has {p} l number row at = owner_numbered l.assembly.v l.assembly.image l.name p l.assembly.reads row (in_at l.assembly.reads.reached.rows number row at)

row_owned : {p : Program} (l : IsLinked p) (number row : ℕ) → slice_get l.assembly.reads.reached.rows number ≡ Some row → IsOwned l.assembly.v row
row_owned l number row at = reached_owned l.assembly.reads row (in_at l.assembly.reads.reached.rows number row at)

method_owner : (p : Program) (l : IsLinked p) (number : ℕ) (method : Method) → slice_get p.methods number ≡ Some method → HasOwner p method
method_owner p l number method at =
    let v = l.assembly.v in
    let m = has_row l number method at in
    let owner = owner_of v methods m.row in
    let has = owner_has l number m.row m.at in
    let type = defined_type v l.assembly.reads.keys p.types (have_all p l) owner has in
    record {
      among = subst (λ n. is_in p.layout.types n ≡ true) (sym m.is.owner) (type_placed p l owner has);
      owner = type.type;
      at = ap (slice_get p.types) m.is.owner ∙ type.at;
      own = text_at v (cell v methods m.row 3);
      text = method_text v m.row l.assembly.resolved (row_owned l number m.row m.at).row;
      name = m.is.name.is ∙ ap (λ name. name ++ codes "::" ++ text_at v (cell v methods m.row 3)) (one_name v owner m.is.name.type type.type.name m.is.name.type_is type.name);
    }

pub owners_are : (p : Program) (l : IsLinked p) → AllByRecursion (HasOwner p) p.methods
owners_are p l = each_at_place (HasOwner p) p.methods (method_owner p l)

-- THE LISTS OF METHODS

-- a list does not begin behind its end
list_goes : (v : View) (row : ℕ) → IsFaultless v → IsRow v type_defs row → list_start v methods row ≤ list_end v methods row
list_goes v row faultless is =
    ⊎_elim
    (λ behind. absurd (faultless BadList type_defs row (Lists row is (λ lists. let goes = lists.methods in omega arith))))
    (λ goes. goes)
    (cases_lt (list_end v methods row) (list_start v methods row))

ends_at_next : (v : View) (row : ℕ) → row < count_of v type_defs → list_end v methods row ≡ list_start v methods (row + 1)
ends_at_next v row less =
    cond-false (row == count_of v type_defs) (count_of v methods + 1) (list_start v methods (row + 1)) (ne_eqb row (count_of v type_defs) (λ same. omega arith))

-- where lists begin rises with the rows of types
starts_rise : (v : View) (row steps : ℕ) → IsFaultless v → 1 ≤ row → row + steps ≤ count_of v type_defs → list_start v methods row ≤ list_start v methods (row + steps)
starts_rise v row zero faultless some few = let same : row + 0 ≡ row = omega arith in subst (λ r. list_start v methods row ≤ list_start v methods r) (sym same) (omega arith)
starts_rise v row (suc steps) faultless some few =
    let before = starts_rise v row steps faultless some (omega arith) in
    let goes = list_goes v (row + steps) faultless (record { some = omega arith; few = omega arith }) in
    let next = ends_at_next v (row + steps) (omega arith) in
    let same : (row + steps) + 1 ≡ row + suc steps = omega arith in
    subst (λ r. list_start v methods row ≤ list_start v methods r) same (omega arith)

some_from : (o : Option ℕ) → unwrap_or o 0 ≢ 0 → o ≡ Some (unwrap_or o 0)
some_from None other = absurd (other refl)
some_from (Some x) other = refl

-- the list of its owner has a method
record IsWithin (v : View) (method type : ℕ) : Type 0 where
  begun : list_start v methods type ≤ method
  left : method < list_end v methods type

within_owner : (v : View) (method : ℕ) → IsOwned v method → IsWithin v method (owner_of v methods method)
within_owner v method owned =
    let owner = owner_of v methods method in
    let listed = found_passes (is_listed v methods method) (rows_in v type_defs) owner (some_from (find (is_listed v methods method) (rows_in v type_defs)) owned.owned) in
    let parts = and_parts (nat_le (list_start v methods owner) method) (nat_lt method (list_end v methods owner)) listed in
    record { begun = leb-true (list_start v methods owner) method parts.0; left = ltb-true method (list_end v methods owner) parts.1 }

-- a type before another has its methods before the other's
owners_rise : (v : View) (method later : ℕ) → IsFaultless v → IsOwned v method → IsOwned v later → method < later → owner_of v methods method ≤ owner_of v methods later
owners_rise v method later faultless owned later_owned less =
    let one = owner_of v methods method in
    let other = owner_of v methods later in
    ⊎_elim
    (λ turned.
    let first = within_owner v method owned in
    let second = within_owner v later later_owned in
    let there : IsRow v type_defs one = owner_row v methods method one refl owned.owned in
    let other_there : IsRow v type_defs other = owner_row v methods later other refl later_owned.owned in
    let ends = ends_at_next v other (omega (arith, there.few)) in
    let same : (other + 1) + (one - (other + 1)) ≡ one = omega arith in
    let rises = subst (λ r. list_start v methods (other + 1) ≤ list_start v methods r) same (starts_rise v (other + 1) (one - (other + 1)) faultless (omega arith) (omega (arith, there.few))) in
    absurd (omega (arith, first.begun, second.left)))
    (λ goes. goes)
    (cases_lt other one)

-- THE ORDER OF OWNERS

row_number : {p : Program} (l : IsLinked p) (row : ℕ) → HasNumber l row → unwrap_or (type_row l.assembly.reads.keys (number_of l.assembly.reads.keys (alone (Defined row)))) 0 ≡ row
row_number l row has = ap (λ key. unwrap_or (row_of_key key) 0) (at_number l.assembly.reads.keys (alone (Defined row)) has)

abbrev type_place : {p : Program} → IsLinked p → ℕ → ℕ
type_place {p} l row = place_of p.layout.types (number_of l.assembly.reads.keys (alone (Defined row)))

types_rise : (p : Program) (l : IsLinked p) (row later : ℕ) → HasNumber l row → HasNumber l later → row ≤ later → type_place l row ≤ type_place l later
types_rise p l row later has later_has goes =
    let keys = l.assembly.reads.keys in
    ⊎_elim
    (λ less.
    let rises = places_rise (λ n. unwrap_or (type_row keys n) 0) p.layout.types (number_of keys (alone (Defined row))) (number_of keys (alone (Defined later))) l.assembly.reads.layout.types.rising
    (type_placed p l row has) (type_placed p l later later_has) (let one = row_number l row has in let other = row_number l later later_has in omega arith) in
    omega arith)
    (λ up_to. let same : row ≡ later = omega arith in let level = ap (type_place l) same in omega arith)
    (cases_lt row later)

-- where the owner of a method stands, by the method's row
place_is : (p : Program) (l : IsLinked p) (number row : ℕ) → slice_get l.assembly.reads.reached.rows number ≡ Some row → owner_place p number ≡ type_place l (owner_of l.assembly.v methods row)
place_is p l number row at =
    let rows = l.assembly.reads.reached.rows in
    let within = slice_get_within rows number row at in
    let method = at_place p.methods number (omega (arith, count_is l)) in
    let m = has_row l number method.0 method.1 in
    let same : m.row ≡ row = same_Some m.row row (sym m.at ∙ at) in
    ap (λ o. place_of p.layout.types (owner_in o)) method.1 ∙ ap (place_of p.layout.types) m.is.owner ∙ ap (λ r. type_place l (owner_of l.assembly.v methods r)) same

pub by_owner : (p : Program) (l : IsLinked p) → AllPairs (λ number later. owner_place p number ≤ owner_place p later) p.layout.methods
by_owner p l i j d less within =
    let rows = l.assembly.reads.reached.rows in
    let numbers = p.layout.methods in
    let v = l.assembly.v in
    let number = get_or numbers i d in
    let later = get_or numbers j d in
    let each = l.assembly.reads.layout.methods.each in
    let row = some_value (slice_get rows number) (each_at (λ n. IsSome (slice_get rows n)) numbers each i number (slice_get-get_or numbers i d (omega arith))) in
    let other = some_value (slice_get rows later) (each_at (λ n. IsSome (slice_get rows n)) numbers each j later (slice_get-get_or numbers j d within)) in
    let rising = l.assembly.reads.layout.methods.rising i j d less within in
    let first = ap (λ o. unwrap_or o 0) row.1 in
    let second = ap (λ o. unwrap_or o 0) other.1 in
    let before : row.0 < other.0 = omega arith in
    let goes = owners_rise v row.0 other.0 l.assembly.resolved (row_owned l number row.0 row.1) (row_owned l later other.0 other.1) before in
    let rises = types_rise p l (owner_of v methods row.0) (owner_of v methods other.0) (owner_has l number row.0 row.1) (owner_has l later other.0 other.1) goes in
    let one = place_is p l number row.0 row.1 in
    let two = place_is p l later other.0 other.1 in
    omega arith
