-- Types and members of small assemblies.
use Rattle.std.proofs.Common.{◌≡◌, ◌≤◌, ℕ, ◌*◌, ◌/◌, ◌%◌, ◌<◌, Bool, false, List, [], ◌∷◌, ◌++◌, drop, Option, Some, None, refl, sym, ap, ◌∙◌, subst, inl, inr, ⊎_elim, lit≤, arith}
use Rattle.std.specs.Prelude.{◌==◌, codes, length, not, slice_index}
use Rattle.std.proofs.lemmas.Bool.{false≢true}
use Rattle.px_blobs.proofs.Texts.{text_stands}
use Rattle.px_sig.specs.declared.sig.MethodSig.{MethodSig}
use Rattle.px_tables.specs.Metadata.{View}
use Rattle.px_meta.specs.Chains.{Ends, GoesOn, HasEnd, IsChain, base_in}
use Rattle.px_meta.specs.Faults.{Bases, Blames, HasLists, HasNames, IsFaultless}
use Rattle.px_meta.specs.Members.{owner_of}
use Rattle.px_meta.specs.Overriding.{Derives, Directly, Here, IsNamesake, IsSaid, MayOverride, Overrides, Through}
use Rattle.px_meta.specs.Rows.{IsReadable, IsRow, count_of, method_impls, methods, type_defs, type_refs}
use Rattle.px_meta.specs.Tokens.{IsTypeName, NamesMember}
use Rattle.px_meta.specs.declared.fault.MetaFault.TheVariants.{Bad}
use Rattle.px_meta.specs.declared.fault.MetaKind.TheVariants.{BadList, CycleOfBases}
use Rattle.px_meta.proofs.Blame.{blamed, chain_blamed, clean_types, list_blamed, sound_all, sound_none, table_blamed}
use Rattle.px_meta.proofs.Overridden.{one_overridden, overrides_may}
use Rattle.px_facts_load.proofs.FileWords.{zeros}
use Rattle.px_facts_load.proofs.SignatureWords.{grammar, void, instance}
use Rattle.px_facts_load.proofs.TableWords.{tables}

-- HOW THE ASSEMBLIES ARE WRITTEN

-- a number in two bytes, the low one first
abbrev two : ℕ → List ℕ
two n = n % 0x100 ∷ n / 0x100 ∷ []

-- the texts Sys at 1, A at 5, B at 7 and m at 9
abbrev strings : List ℕ
strings = 0 ∷ codes "Sys" ++ 0 ∷ codes "A" ++ 0 ∷ codes "B" ++ 0 ∷ codes "m" ++ 0 ∷ []

-- the signature of a method with a receiver: at 1 without parameters, at 5 with an int32
abbrev blobs : List ℕ
blobs = 0 ∷ 3 ∷ 0x20 ∷ 0 ∷ 1 ∷ 4 ∷ 0x20 ∷ 1 ∷ 1 ∷ 8 ∷ []

-- a type by its name, its namespace, its base as a coded index, and the first of its methods; no type has fields
abbrev type_row : ℕ → ℕ → ℕ → ℕ → List ℕ
type_row name namespace base method = zeros 4 ++ two name ++ two namespace ++ two base ++ two 1 ++ two method

-- a method m by its flags, of which 0x40 says that it is virtual, and its signature
abbrev method_row : ℕ → ℕ → List ℕ
method_row flags sig = zeros 6 ++ two flags ++ two 9 ++ two sig ++ two 1

-- a row that says that a method of B overrides another
abbrev impl_row : ℕ → ℕ → List ℕ
impl_row body declaration = two 2 ++ two (2 * body) ++ two (2 * declaration)

-- an assembly of two types by how many methods and how many such rows it has, and its rows
abbrev made : ℕ → ℕ → List ℕ → View
made methods impls rows =
    record {
      counts = record { heap_sizes = 0; rows = 0 ∷ 0 ∷ 2 ∷ 0 ∷ 0 ∷ 0 ∷ methods ∷ zeros 18 ++ impls ∷ zeros 38 };
      rows = rows;
      strings = strings;
      user_strings = [];
      guid = [];
      blob = blobs;
    }

-- Sys.A with a method m, and B with A as base and a method m
abbrev plain : View
plain = made 2 0 (type_row 5 1 0 1 ++ type_row 7 0 4 2 ++ method_row 0x46 1 ++ method_row 0x46 1)

-- BASES

-- a resolver that takes bases by the low bits of another table gives None
a_base : base_in plain 2 ≡ Some 1
unfolding tables
a_base = refl

no_base : base_in plain 1 ≡ None
unfolding tables
no_base = refl

-- a chain that goes from one type to another and back
comes_back : (next : ℕ → Option ℕ) (one other : ℕ) → next one ≡ Some other → next other ≡ Some one → (behind : List ℕ) → IsChain next one behind → ⊥
comes_back next one other to back [] (Ends _ none) = absurd (cc)
comes_back next one other to back (b ∷ rest) (GoesOn _ _ _ on chain) =
    let same : b ≡ other = cc in comes_back next other one back to rest (subst (λ n. IsChain next n rest) same chain)

-- A and B have each other as base
abbrev cyclic : View
cyclic = made 2 0 (type_row 5 1 8 1 ++ type_row 7 0 4 2 ++ method_row 0x46 1 ++ method_row 0x46 1)

no_end : HasEnd (base_in cyclic) 1 → ⊥
unfolding tables
no_end end = comes_back (base_in cyclic) 1 2 refl refl end.behind end.chain

first_row : IsRow cyclic type_defs 1
first_row = record { some = lit≤ tt; few = lit≤ tt }

-- a resolver that sees only types that are their own bases finds no fault
a_cycle_of_two : IsFaultless cyclic → ⊥
a_cycle_of_two faultless = faultless CycleOfBases type_defs 1 (Bases 1 first_row no_end)

a_cycle_is_placed : Blames cyclic (Bad CycleOfBases 0x0200_0001)
unfolding tables lib.Utf8.encode
a_cycle_is_placed =
    blamed cyclic type_defs (Bad CycleOfBases 0x0200_0001) (clean_types cyclic (sound_all cyclic type_refs 0 refl (sound_none cyclic type_refs)))
    (table_blamed cyclic type_defs 0 (Bad CycleOfBases 0x0200_0001) (sound_none cyclic type_defs)
    (chain_blamed cyclic 1 (Bad CycleOfBases 0x0200_0001) refl lists names (Bases 1 first_row no_end)))
  where
    lists : HasLists cyclic 1
    lists = record { fields = lit≤ tt; methods = lit≤ tt }

    name : IsReadable cyclic 5
    name = record { text = codes "A"; stands = text_stands strings 5 (drop 5 strings) 1 refl refl (codes "A", (refl, refl)) }

    namespace : IsReadable cyclic 1
    namespace = record { text = codes "Sys"; stands = text_stands strings 1 (drop 1 strings) 3 refl refl (codes "Sys", (refl, refl)) }

    names : HasNames cyclic type_defs 1
    names = record { name = name; namespace = namespace }

-- the same, where the methods of A begin after those of B
abbrev cyclic_and_out_of_order : View
cyclic_and_out_of_order = made 2 0 (type_row 5 1 8 3 ++ type_row 7 0 4 2 ++ method_row 0x46 1 ++ method_row 0x46 1)

-- a resolver that looks at cycles first names a cycle
lists_before_cycles : Blames cyclic_and_out_of_order (Bad BadList 0x0200_0001)
unfolding tables
lists_before_cycles =
    let v = cyclic_and_out_of_order in
    blamed v type_defs (Bad BadList 0x0200_0001) (clean_types v (sound_all v type_refs 0 refl (sound_none v type_refs)))
    (table_blamed v type_defs 0 (Bad BadList 0x0200_0001) (sound_none v type_defs)
    (list_blamed v 1 (Bad BadList 0x0200_0001) (record { some = lit≤ tt; few = lit≤ tt }) refl out_of_order))
  where
    out_of_order : HasLists cyclic_and_out_of_order 1 → ⊥
    out_of_order lists = let order : 3 ≤ 2 = lists.methods in absurd (omega arith)

-- WHICH METHOD ANOTHER OVERRIDES

-- no row says that a method overrides another
no_rows : (v : View) (row method other : ℕ) → count_of v method_impls ≡ 0 → IsSaid v row method other → ⊥
no_rows v row method other none said =
    let some = said.there.some in
    let few = said.there.few in
    absurd (omega arith)

underived : (v : View) (type other : ℕ) → base_in v type ≡ None → Derives v type other → ⊥
underived v type other none (Directly _ _ on) = cc
underived v type other none (Through _ between _ on derives) = cc

-- by its name
the_same_name : Overrides plain 2 1
unfolding tables grammar
the_same_name =
    inr (record {
      nobody_says = λ row other. no_rows plain row 2 other refl;
      old_slot = refl;
      nearest = Here 2 1 1 refl (record { namesake = record { owner = refl; name = refl; may = may }; first = none_before });
    })
  where
    may : MayOverride plain 2 1
    may =
        record {
          row = record { some = lit≤ tt; few = lit≤ tt };
          other_row = record { some = lit≤ tt; few = lit≤ tt };
          virtual = refl;
          other_virtual = refl;
          sig = instance void [];
          has_sig = refl;
          other_has_sig = refl;
          instance = refl;
          owned = λ none. absurd (omega arith);
          derives = Directly 2 1 refl;
        }

    none_before : (other : ℕ) → other < 1 → IsNamesake plain 2 1 other → ⊥
    none_before other less namesake = let some = namesake.may.other_row.some in absurd (omega arith)

-- m of B begins a new slot
abbrev new_slot : View
new_slot = made 2 0 (type_row 5 1 0 1 ++ type_row 7 0 4 2 ++ method_row 0x46 1 ++ method_row 0x146 1)

-- a resolver that looks at another flag gives 1
a_new_slot_overrides_none : (other : ℕ) → Overrides new_slot 2 other → ⊥
unfolding tables
a_new_slot_overrides_none other o =
    ⊎_elim (λ first. no_rows new_slot first.row 2 other refl first.said) (λ named. false≢true (sym named.old_slot)) o

-- m of B takes an int32
abbrev with_parameter : View
with_parameter = made 2 0 (type_row 5 1 0 1 ++ type_row 7 0 4 2 ++ method_row 0x46 1 ++ method_row 0x46 5)

abbrev has_parameters : Option MethodSig → Bool
has_parameters None = false
has_parameters (Some sig) = not (length sig.params == 0)

-- a resolver that ignores signatures gives 1
another_signature_is_not_overridden : Overrides with_parameter 2 1 → ⊥
unfolding tables grammar
another_signature_is_not_overridden o =
    let may = overrides_may with_parameter 2 1 o in false≢true (ap has_parameters (may.other_has_sig ∙ sym may.has_sig))

-- B has no base, and a row says that its m overrides that of A
abbrev unrelated : View
unrelated = made 2 1 (type_row 5 1 0 1 ++ type_row 7 0 0 2 ++ method_row 0x46 1 ++ method_row 0x46 1 ++ impl_row 2 1)

-- a resolver that takes any type for a base gives 1
what_is_no_base_is_not_overridden : (other : ℕ) → Overrides unrelated 2 other → ⊥
unfolding tables
what_is_no_base_is_not_overridden other o =
    let may = overrides_may unrelated 2 other o in underived unrelated 2 (owner_of unrelated methods other) refl may.derives

-- A has two methods m, and one row says that m of B overrides the first, and another that it overrides the second
abbrev said_twice : View
said_twice =
    made 3 2 (type_row 5 1 0 1 ++ type_row 7 0 4 3 ++ method_row 0x46 1 ++ method_row 0x46 1 ++ method_row 0x46 1 ++ impl_row 3 1 ++ impl_row 3 2)

the_first_row_counts : Overrides said_twice 3 1
unfolding tables grammar
the_first_row_counts = inl (record { row = 1; said = said; first = none_before })
  where
    may : MayOverride said_twice 3 1
    may =
        record {
          row = record { some = lit≤ tt; few = lit≤ tt };
          other_row = record { some = lit≤ tt; few = lit≤ tt };
          virtual = refl;
          other_virtual = refl;
          sig = instance void [];
          has_sig = refl;
          other_has_sig = refl;
          instance = refl;
          owned = λ none. absurd (omega arith);
          derives = Directly 2 1 refl;
        }

    said : IsSaid said_twice 1 3 1
    said = record { there = record { some = lit≤ tt; few = lit≤ tt }; body = refl; declaration = refl; may = may }

    none_before : (row other : ℕ) → row < 1 → IsSaid said_twice row 3 other → ⊥
    none_before row other less it = let some = it.there.some in absurd (omega arith)

-- a resolver in which the last row counts gives 2
the_second_row_does_not : Overrides said_twice 3 2 → ⊥
the_second_row_does_not o = let same = one_overridden said_twice 3 1 2 the_first_row_counts o in absurd (omega arith)

-- WHAT TOKENS NAME

-- a resolver whose lists end one row early says that no type has the last method
the_last_method_is_a_member : NamesMember plain 0x0600_0002
unfolding tables
the_last_method_is_a_member = inl ((refl, record { some = lit≤ tt; few = lit≤ tt }), λ none. absurd (omega arith))

-- the methods of A begin with the second, and so do those of B
abbrev unowned : View
unowned = made 2 0 (type_row 5 1 0 2 ++ type_row 7 0 4 2 ++ method_row 0x46 1 ++ method_row 0x46 1)

-- a resolver that takes methods of no type for members of the first type gives the method
a_method_of_no_type_is_no_member : NamesMember unowned 0x0600_0001 → ⊥
unfolding tables
a_method_of_no_type_is_no_member names =
    ⊎_elim
    (λ method. method.1 refl)
    (λ others. ⊎_elim (λ field. absurd (omega (arith, field.0.0))) (λ reference. absurd (omega (arith, reference.0))) others)
    names

a_name : IsTypeName plain 0x0200_0001 (codes "Sys") (codes "A")
unfolding tables lib.Utf8.encode
a_name =
    record {
      names = inl (refl, record { some = lit≤ tt; few = lit≤ tt });
      namespace_is = text_stands strings 1 (drop 1 strings) 3 refl refl (codes "Sys", (refl, refl));
      name_is = text_stands strings 5 (drop 5 strings) 1 refl refl (codes "A", (refl, refl));
    }

abbrev is_S : List ℕ → Bool
is_S bytes = slice_index bytes 0 == 0x53

-- a resolver that exchanges the name and the namespace gives these
the_names_exchanged : IsTypeName plain 0x0200_0001 (codes "A") (codes "Sys") → ⊥
unfolding tables
the_names_exchanged named = false≢true (sym (ap is_S named.namespace_is.stands))
