-- The code of a body, read again.
use Rattle.std.proofs.Common.{◌≡◌, ℕ, Bool, true, false, List, [], ◌∷◌, ◌++◌, refl, sym, ap, ◌∙◌}
use Rattle.std.specs.Prelude.{◌==◌, if◌then◌else◌}
use Rattle.std.specs.List.{AllByRecursion, AllZip, flat_map}
use Rattle.std.proofs.lemmas.List.{map-append}
use Rattle.px_code.specs.declared.body.RawInstr.{RawInstr}
use Rattle.px_link_methods.specs.Codes.{IsInstr}
use Rattle.px_link_methods.specs.Methods.{keys_of_instr}
use Rattle.px_link_methods.specs.Slots.{Forms}
use Rattle.px_program.specs.declared.instr.Instr.{Instr}
use Rattle.px_link_reach.specs.Finding.{AreIn}
use Rattle.px_link_reach.specs.Met.{calls_of, target_of, virtual_target_of, with_overriders}
use Rattle.px_link_types.specs.Making.{AreNumberedIn}
use Rattle.px_asm_law_relink.specs.Again.{Again, first_numbers, key_for, keys_for, method_for, methods_for, numbers_for}
use Rattle.px_asm_described.specs.Describes.{IsInstrOf}
use Rattle.px_asm_law_relink.specs.Linked.{is_run}
use Rattle.px_asm_law_relink.proofs.InstrsAgain.{BarsNothing, instr_again}
use Rattle.px_asm_law_relink.proofs.OverridingAgain.{lists_for, overriders_again}

-- the calls of an instruction stand for those of another
pub record IsCallAgain (a : Again) (first raw : RawInstr) : Type 0 where
  pub targets : target_of a.v raw ≡ methods_for a (target_of a.first first)
  pub virtual : (raw.opcode == 0x6F) ≡ (first.opcode == 0x6F)

pub record AreCodesAgain (a : Again) (firsts raws : List RawInstr) (instrs : List Instr) : Type 0 where
  pub are : (forms : Forms) → BarsNothing forms → AllZip (IsInstr a.v (numbers_for a) forms) raws instrs
  pub keys : flat_map (keys_of_instr a.v) raws ≡ keys_for a (flat_map (keys_of_instr a.first) firsts)
  pub calls : AllZip (IsCallAgain a) firsts raws

pub codes_again : (a : Again) (forms : Forms) (firsts raws : List RawInstr) (instrs : List Instr) → AllZip (IsInstr a.first (first_numbers a) forms) firsts instrs → AllByRecursion (λ (instr : Instr). is_run instr.code ≡ true) instrs
    → AllByRecursion (λ first. AreNumberedIn a.reads.keys (keys_of_instr a.first first)) firsts → AllByRecursion (λ first. AreIn a.reads.reached.rows (target_of a.first first)) firsts
    → AllZip (IsInstrOf a.p a.v) instrs raws → AreCodesAgain a firsts raws instrs
codes_again a forms [] [] [] are run numbered among describe = record { are = λ others bars. tt; keys = refl; calls = tt }
codes_again a forms [] (raw ∷ raws) [] are run numbered among describe = absurd describe
codes_again a forms [] raws (instr ∷ instrs) are run numbered among describe = absurd are
codes_again a forms (first ∷ firsts) raws [] are run numbered among describe = absurd are
codes_again a forms (first ∷ firsts) [] (instr ∷ instrs) are run numbered among describe = absurd describe
codes_again a forms (first ∷ firsts) (raw ∷ raws) (instr ∷ instrs) are run numbered among describe =
    let one = instr_again a forms first raw instr are.0 run.0 numbered.0 among.0 describe.0 in
    let later = codes_again a forms firsts raws instrs are.1 run.1 numbered.1 among.1 describe.1 in
    record {
      are = λ others bars. (one.is others bars, later.are others bars);
      keys = ap (λ l. l ++ flat_map (keys_of_instr a.v) raws) one.keys ∙ ap (λ l. keys_for a (keys_of_instr a.first first) ++ l) later.keys
          ∙ sym (map-append (key_for a) (keys_of_instr a.first first) (flat_map (keys_of_instr a.first) firsts));
      calls = (record { targets = one.targets; virtual = one.virtual }, later.calls);
    }

-- CALLS

-- what a list of methods leads to
pub flat_map_for : (a : Again) (f g : ℕ → List ℕ) (xs : List ℕ) → AllByRecursion (λ x. g (method_for a x) ≡ methods_for a (f x)) xs → flat_map g (methods_for a xs) ≡ methods_for a (flat_map f xs)
flat_map_for a f g [] same = refl
flat_map_for a f g (x ∷ xs) same =
    ap (λ l. l ++ flat_map g (methods_for a xs)) same.0 ∙ ap (λ l. methods_for a (f x) ++ l) (flat_map_for a f g xs same.1) ∙ sym (map-append (method_for a) (f x) (flat_map f xs))

followed : (a : Again) (targets : List ℕ) → AreIn a.reads.reached.virtual_targets targets
    → AllByRecursion (λ target. with_overriders (lists_for a) (method_for a target) ≡ methods_for a (with_overriders a.reads.lists target)) targets
followed a [] named = tt
followed a (target ∷ targets) named = (ap (λ l. method_for a target ∷ l) (overriders_again a target named.0), followed a targets named.1)

calls_by : (a : Again) (firsts targets : List ℕ) (virtual : Bool) → targets ≡ methods_for a firsts → AreIn a.reads.reached.virtual_targets (if virtual then firsts else [])
    → (if virtual then flat_map (with_overriders (lists_for a)) targets else targets) ≡ methods_for a (if virtual then flat_map (with_overriders a.reads.lists) firsts else firsts)
calls_by a firsts targets true same named =
    ap (flat_map (with_overriders (lists_for a))) same ∙ flat_map_for a (with_overriders a.reads.lists) (with_overriders (lists_for a)) firsts (followed a firsts named)
calls_by a firsts targets false same named = same

virtual_by : (a : Again) (firsts targets : List ℕ) (virtual : Bool) → targets ≡ methods_for a firsts → (if virtual then targets else []) ≡ methods_for a (if virtual then firsts else [])
virtual_by a firsts targets true same = same
virtual_by a firsts targets false same = refl

one_calls : (a : Again) (first raw : RawInstr) → IsCallAgain a first raw → AreIn a.reads.reached.virtual_targets (virtual_target_of a.first first) → calls_of a.v (lists_for a) raw ≡ methods_for a (calls_of a.first a.reads.lists first)
one_calls a first raw again named =
    ap (λ (b : Bool). if b then flat_map (with_overriders (lists_for a)) (target_of a.v raw) else target_of a.v raw) again.virtual
    ∙ calls_by a (target_of a.first first) (target_of a.v raw) (first.opcode == 0x6F) again.targets named

one_virtual : (a : Again) (first raw : RawInstr) → IsCallAgain a first raw → virtual_target_of a.v raw ≡ methods_for a (virtual_target_of a.first first)
one_virtual a first raw again =
    ap (λ (b : Bool). if b then target_of a.v raw else []) again.virtual ∙ virtual_by a (target_of a.first first) (target_of a.v raw) (first.opcode == 0x6F) again.targets

pub all_calls : (a : Again) (firsts raws : List RawInstr) → AllZip (IsCallAgain a) firsts raws → AllByRecursion (λ first. AreIn a.reads.reached.virtual_targets (virtual_target_of a.first first)) firsts
    → flat_map (calls_of a.v (lists_for a)) raws ≡ methods_for a (flat_map (calls_of a.first a.reads.lists) firsts)
all_calls a [] [] again named = refl
all_calls a [] (raw ∷ raws) again named = absurd again
all_calls a (first ∷ firsts) [] again named = absurd again
all_calls a (first ∷ firsts) (raw ∷ raws) again named =
    ap (λ l. l ++ flat_map (calls_of a.v (lists_for a)) raws) (one_calls a first raw again.0 named.0)
    ∙ ap (λ l. methods_for a (calls_of a.first a.reads.lists first) ++ l) (all_calls a firsts raws again.1 named.1)
    ∙ sym (map-append (method_for a) (calls_of a.first a.reads.lists first) (flat_map (calls_of a.first a.reads.lists) firsts))

pub all_virtual : (a : Again) (firsts raws : List RawInstr) → AllZip (IsCallAgain a) firsts raws → flat_map (virtual_target_of a.v) raws ≡ methods_for a (flat_map (virtual_target_of a.first) firsts)
all_virtual a [] [] again = refl
all_virtual a [] (raw ∷ raws) again = absurd again
all_virtual a (first ∷ firsts) [] again = absurd again
all_virtual a (first ∷ firsts) (raw ∷ raws) again =
    ap (λ l. l ++ flat_map (virtual_target_of a.v) raws) (one_virtual a first raw again.0)
    ∙ ap (λ l. methods_for a (virtual_target_of a.first first) ++ l) (all_virtual a firsts raws again.1)
    ∙ sym (map-append (method_for a) (virtual_target_of a.first first) (flat_map (virtual_target_of a.first) firsts))
